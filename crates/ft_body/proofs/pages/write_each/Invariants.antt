use Rattle.std.proofs.Common.{◌≡◌, ◌+◌, ◌-◌, ◌*◌, ◌≤◌, take, length}
use Rattle.ft_body.specs.Paging.{byte_in, ArePages, IsWritten}
use Rattle.ft_body.specs.PutBack.{PutPartsBack}
use Rattle.ft_body.proofs.pages.write_each.Given as goal

abbrev pub invariant-loop-index : goal.invariant-loop-index
invariant-loop-index l = record {
  pages_are : ArePages l.pages;
  wrote : IsWritten (byte_in l.initial.pages) (byte_in l.pages) l.offset (take (l.index * 4096 - l.offset) l.bytes);
  back : PutPartsBack l.first l.parts.items l.pages l.initial.pages;
  count : l.index ≡ l.first + length l.parts.items;
  room : length l.parts.items + (l.index-end - l.index) ≤ l.parts.capacity;
}
