use Rattle.std.proofs.Common.{◌≡◌, take}
use Rattle.nuzolged.specs.Listing.{listing, size_of}
use Rattle.nuzolged.proofs.listing.listing_size.Given as goal

-- the names so far are counted
abbrev pub invariant-loop-name : goal.invariant-loop-name
invariant-loop-name l = l.size ≡ size_of (listing (take l.name-index l.names))
