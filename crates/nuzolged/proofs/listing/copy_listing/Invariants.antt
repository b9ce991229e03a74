use Rattle.std.proofs.Common.{◌≡◌, take}
use Rattle.ft_session.specs.Buffers.{filled}
use Rattle.nuzolged.specs.Listing.{listing, size_of}
use Rattle.nuzolged.proofs.listing.copy_listing.Given as goal

-- the names so far are copied
abbrev pub invariant-loop-name : goal.invariant-loop-name
invariant-loop-name l = record {
  size : l.at ≡ size_of (listing (take l.name-index l.names));
  bytes : l.buffer ≡ filled (listing (take l.name-index l.names)) l.fn.buffer;
}
