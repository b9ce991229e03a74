-- Files that are given what they are to get, one after another.
use Rattle.std.proofs.Common.{◌≡◌, ℕ, Bool, true, false, ◌&&◌, List, [], ◌∷◌, ◌++◌, Option, None, Some, refl, sym, ap, subst, ◌∙◌, map}
use Rattle.std.proofs.lemmas.Bool.{and_parts}
use Rattle.std.specs.Borrow.{Bor}
use Rattle.std.specs.Io.KnownBytes.{Keeps}
use Rattle.ft_script.proofs.Running.{keeps_refl}
use Rattle.ft_transfer.specs.Disk.{FileTold}
use Rattle.ft_plan_files.specs.declared.places.GetPlace.{GetPlace}
use Rattle.ft_run.specs.Giving.{GivesAll, GivesOne}

-- `get`s with what they got, as a loop over both has them
abbrev pub pairs : List (Bor GetPlace × Bor (Option (List ℕ))) → List (GetPlace × Option (List ℕ))
pairs = map (λ pair. (pair.0.now, pair.1.now))

pairs_more : (yielded : List (Bor GetPlace × Bor (Option (List ℕ)))) (last : Bor GetPlace × Bor (Option (List ℕ))) → pairs (yielded ++ last ∷ []) ≡ pairs yielded ++ (last.0.now, last.1.now) ∷ []
pairs_more [] last = refl
pairs_more (first ∷ yielded) last = ap (λ others. (first.0.now, first.1.now) ∷ others) (pairs_more yielded last)

and_true : (b : Bool) → b ≡ (b && true)
and_true true = refl
and_true false = refl

and_assoc : (a b c : Bool) → ((a && b) && c) ≡ (a && (b && c))
and_assoc true b c = refl
and_assoc false b c = refl

module _ (tells : FileTold → Type 0) where
  -- one more
  pub gives_more : (gets : List (GetPlace × Option (List ℕ))) (get : GetPlace × Option (List ℕ)) (all given : Bool) (before now after : Option (List ℕ)) → GivesAll tells gets all before now → GivesOne tells get.0 get.1 given now after → GivesAll tells (gets ++ get ∷ []) (all && given) before after
  gives_more [] get all given before now after so_far one =
      (given, true, after, subst (λ (told : Option (List ℕ)). GivesOne tells get.0 get.1 given told after) so_far.1 one, (refl, refl), ap (λ a. a && given) so_far.0 ∙ and_true given)
  gives_more (first ∷ gets) get all given before now after so_far one = (
    so_far.0,
    so_far.1 && given,
    so_far.2,
    so_far.3,
    gives_more gets get so_far.1 given so_far.2 now after so_far.4 one,
    ap (λ a. a && given) so_far.5 ∙ and_assoc so_far.0 so_far.1 given,
  )

  -- the same, as the loop has it
  pub gives_next : (yielded : List (Bor GetPlace × Bor (Option (List ℕ)))) (last : Bor GetPlace × Bor (Option (List ℕ))) (all given : Bool) (before now after : Option (List ℕ)) → GivesAll tells (pairs yielded) all before now → GivesOne tells last.0.now last.1.now given now after → GivesAll tells (pairs (yielded ++ last ∷ [])) (all && given) before after
  gives_next yielded last all given before now after so_far one =
      subst (λ (gets : List (GetPlace × Option (List ℕ))). GivesAll tells gets (all && given) before after) (sym (pairs_more yielded last)) (gives_more (pairs yielded) (last.0.now, last.1.now) all given before now after so_far one)

  one_quiet : (get : GetPlace) (got : Option (List ℕ)) (before after : Option (List ℕ)) → GivesOne tells get got true before after → after ≡ before
  one_quiet get None before after one = one.1
  one_quiet get (Some bytes) before after one = one.1

  -- if each could be written, nothing is told
  pub all_quiet : (gets : List (GetPlace × Option (List ℕ))) (before after : Option (List ℕ)) → GivesAll tells gets true before after → after ≡ before
  all_quiet [] before after all = all.1
  all_quiet (get ∷ gets) before after all =
      let both = and_parts all.0 all.1 (sym all.5) in
      all_quiet gets all.2 after (subst (λ b. GivesAll tells gets b all.2 after) both.1 all.4) ∙ one_quiet get.0 get.1 before all.2 (subst (λ b. GivesOne tells get.0 get.1 b before all.2) both.0 all.3)

  pub quiet : (gets : List (GetPlace × Option (List ℕ))) (before after : Option (List ℕ)) → GivesAll tells gets true before after → Keeps before after
  quiet gets before after all = subst (Keeps before) (sym (all_quiet gets before after all)) (keeps_refl before)
