use Rattle.std.proofs.Common.{◌≡◌, ℕ, ◌*◌, ◌<◌, ◌≤◌}
use Rattle.ft_body.specs.Paging.{byte_in, page_count}
use Rattle.ft_body.proofs.pages.end_below.Given as goal

abbrev pub invariant-loop-index : goal.invariant-loop-index
invariant-loop-index l = record {
  within : l.index ≤ page_count l.size;
  zeros : (k : ℕ) → l.index * 4096 ≤ k → k < l.size → byte_in l.pages k ≡ 0;
}

abbrev pub decreases-loop-index : goal.decreases-loop-index
decreases-loop-index l = l.index
