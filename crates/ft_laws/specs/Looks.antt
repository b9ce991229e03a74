-- A call as a tree of looks: it looks at a place, continues by what it sees there, and in the end
-- has an answer. One definition gives both the places and the answer. (A rule of this project.)
use Rattle.std.specs.Prelude.{List, ◌∷◌}

module _ (Place : Type 0) (Shown : Place → Type 0) (A : Type 0) where
  -- each place that is seen decides how the call continues, until it has an answer
  pub data Looks : Type 0 where
    Answer : A → Looks
    Look : (p : Place) → (Shown p → Looks) → Looks

  -- the answer, and the places that were looked at, the last one first
  pub record Ending : Type 0 where
    pub answer : A
    pub seen : List Place

  -- the ending of the looks, if each place shows what it does in the view
  abbrev pub follow : Looks → ((p : Place) → Shown p) → List Place → Ending
  follow (Answer x) view seen = record { answer = x; seen = seen }
  follow (Look p next) view seen = follow (next (view p)) view (p ∷ seen)
