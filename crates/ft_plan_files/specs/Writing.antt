-- How a plan is written out, line by line. No public clause cites it.
use Rattle.std.specs.Prelude.{◌≡◌, ℕ, List, ◌++◌}
use Rattle.ft_transfer.specs.Disk.{FileTold}
use Rattle.ft_plan_files.specs.WrittenOut.{IsWrittenLine}

-- after a text stands what is put for a line
abbrev pub PutsLine : (FileTold → Type 0) → List ℕ → List ℕ → List ℕ → Type 0
PutsLine tells line old new = (text : List ℕ) × IsWrittenLine tells line text × (new ≡ old ++ text)
