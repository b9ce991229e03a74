-- What was written of a text.
use Rattle.std.proofs.Common.{ℕ, List, Option, Result, Ok, Err, OnOk, OnErr, inl, inr}
use Rattle.std.specs.Io.KnownBytes.{Appends}
use Rattle.ft_script.specs.Runs.{WritesFront, WritesPart}

-- all of it was written, or a part
pub front_of_write : {T E : Type 0} (r : Result T E) (a b : Option (List ℕ)) (text : List ℕ) → OnOk r (Appends a b text) → OnErr r (WritesPart a b text) → WritesFront a b text
front_of_write (Ok x) a b text h k = inl h
front_of_write (Err e) a b text h k = inr k
