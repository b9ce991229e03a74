-- The frame, kept and exchange laws of the calls.
use Rattle.std.proofs.Common.{◌≡◌, ◌||◌, ◌&&◌, Bool, true, false, List, [], ◌∷◌, Some, None, map, inl, inr, refl, sym, ap, subst, ◌∙◌}
use Rattle.std.proofs.lemmas.Bool.{false≢true, false_from_ne_true, or_right}
use Rattle.std.specs.List.{list_any}
use Rattle.ft_laws.specs.Lists.{In, any}
use Rattle.ft_laws.specs.Calls.{made}
use Rattle.ft_laws.specs.Effects as effects
use Rattle.ft_laws.proofs.Writing.{write_kept}
use Rattle.ft_laws.proofs.Running.{made_faithful}
use Rattle.ft_cells.specs.declared.cell.Cell.{Cell}
use Rattle.ft_cells.specs.CellOrder.{overlap}
use Rattle.ft_cells.specs.Cells.{Cells, directory_count}
use Rattle.ft_tree.specs.Views.{view_of}
use Rattle.ft_posix.specs.declared.call.Mode.TheVariants.{Write as WriteMode}
use Rattle.ft_posix.specs.declared.call.Access.{Access}
use Rattle.ft_posix.specs.Steps.{steps}
use Rattle.ft_posix.specs.Stored.{outcome, after}
use Rattle.ft_posix.specs.Accesses.{is_write, accesses_of, some_conflict}
use Rattle.ft_posix.specs.Laws.{SoundnessLaw, FreshnessLaw, AgreeOn, FrameLaw, KeptLaw, ExchangeLaw}
use Rattle.ft_tree.specs.Held.{held}
use Rattle.ft_posix.specs.Posix.{as_place, covers, Stamped, HasSoundValues, posix, posix_calls}
use Rattle.ft_posix.proofs.Accessed.{access, looked-accessed, written-accessed}
use Rattle.ft_posix.proofs.Alike.{view-covered, agree-each, looked, accesses-alike, does-alike}
use Rattle.ft_posix.proofs.Lawful.{sets, covers-refl, overlaps, write-put, written-in, exchange}
use Rattle.ft_posix.proofs.Below.{StoredEnough, StepsAlike}
use Rattle.ft_posix.proofs.Upon.{EachCallUpon}

-- where an element passes the test, some element does
listed-any : {A : Type 0} (p : A → Bool) (x : A) (xs : List A) → In x xs → p x ≡ true → list_any p xs ≡ true
listed-any p x [] i h = absurd i
listed-any p x (y ∷ ys) (inl is) h = ap (λ b. b || list_any p ys) (ap p (sym is) ∙ h)
listed-any p x (y ∷ ys) (inr i) h = or_right (p y) (list_any p ys) (listed-any p x ys i h)

-- what is accessed shows the same
agree-at : (s t : Cells) (accesses : List Access) → AgreeOn s t accesses → (a : Access) → In a accesses → view_of s a.cell ≡ view_of t a.cell
agree-at s t [] agree a i = absurd i
agree-at s t (b ∷ more) agree a (inl is) = subst (λ (x : Access). view_of s x.cell ≡ view_of t x.cell) (sym is) agree.0
agree-at s t (b ∷ more) agree a (inr i) = agree-at s t more agree.1 a i

module _ (steps-alike : StepsAlike) (stored-enough : StoredEnough) where
  -- a call does the same on sound cells that show the same where it accesses them
  pub frame : FrameLaw
  frame s t k call sound_s sound_t free_s free_t limits agree =
      let alike = does-alike steps-alike stored-enough s t sound_s.tree sound_t.tree k call limits
      (agree-each (view_of s) (view_of t) (looked s k call)
      (λ c i. let at = looked-accessed (steps s.limits (directory_count s) k call) (view_of s) c i in agree-at s t (accesses_of s k call) agree (access c at.0) at.1)) in
      record {
        accesses = sym (accesses-alike s t k call alike);
        reply = λ i. (sym alike.outcomes i).reply;
        writes = λ i. (sym alike.outcomes i).writes;
      }

-- nothing but what is written changes
pub kept : KeptLaw
kept cells k call c not_written =
    let ws = (outcome cells k call).writes in
    let apart : (x : Cell) → covers c x ≡ true → effects.is_written posix ws x ≡ false = λ x covered.
    false_from_ne_true (effects.is_written posix ws x)
    (λ is. false≢true (sym not_written
    ∙ listed-any (λ a. is_write a.mode && overlap a.cell c) (access x WriteMode) (accesses_of cells k call)
    (written-accessed (steps cells.limits (directory_count cells) k call) (view_of cells) x (written-in ws x is)) (overlaps x c x (covers-refl x) covered))) in
    view-covered (after cells k call) cells c (λ x covered. ap (λ s. held s x) (sym (write-put ws cells)) ∙ write_kept posix sets ws cells x (apart x covered))

-- what is tested of a list under a function
any-map : {A B : Type 0} (p : B → Bool) (f : A → B) (xs : List A) → any p (map f xs) ≡ list_any (λ x. p (f x)) xs
any-map p f [] = refl
any-map p f (x ∷ xs) = ap (λ b. p (f x) || b) (any-map p f xs)

-- accesses conflict as places where they conflict
conflict-places : (f g : List Access) → effects.some_conflict posix (map as_place f) (map as_place g) ≡ some_conflict f g
conflict-places f g =
    any-map (λ a. any (effects.conflict posix a) (map as_place g)) as_place f
    ∙ (λ i. list_any (λ a. any-map (effects.conflict posix (as_place a)) as_place g i) f)

-- in the abstract a call leaves the same cells
act-after : (s : Cells) (a : Stamped) → posix_calls.act s a ≡ after s a.stamp a.call
act-after s a = write-put (outcome s a.stamp a.call).writes s

module _ (steps-alike : StepsAlike) (stored-enough : StoredEnough) (upon : EachCallUpon) (soundness : SoundnessLaw) (freshness : FreshnessLaw) where
  -- calls without conflicting accesses can be made in either order
  pub exchanged : ExchangeLaw
  exchanged cells j a k b sound free_j free_k other clear =
      let x : Stamped = record { stamp = j; call = a } in
      let y : Stamped = record { stamp = k; call = b } in
      let s = posix_calls.act cells x in
      let t = posix_calls.act cells y in
      let has : HasSoundValues cells = record {
        with_places = cells;
        sound = sound;
        same = record { limits = refl; values = λ c. refl };
      } in
      let apart : effects.some_conflict posix (posix_calls.accesses cells x) (posix_calls.accesses s y) ≡ false =
      conflict-places (accesses_of cells j a) (accesses_of s k b) ∙ ap (λ c. some_conflict (accesses_of cells j a) (accesses_of c k b)) (act-after cells x) ∙ clear in
      let law = exchange steps-alike stored-enough upon soundness freshness cells (made posix_calls cells 0 x) (made posix_calls s 0 y)
      (record { sound = has; ready = (free_j, (free_k, tt)); distinct = ((other, tt), (tt, tt)) })
      (made_faithful posix_calls cells 0 (x ∷ y ∷ [])) apart in
      let old : posix_calls.act s y ≡ after (after cells j a) k b = ap (λ c. posix_calls.act c y) (act-after cells x) ∙ act-after (after cells j a) y in
      let new : posix_calls.act t x ≡ after (after cells k b) j a = ap (λ c. posix_calls.act c x) (act-after cells y) ∙ act-after (after cells k b) x in
      let same : (c : Cell) → held (after (after cells k b) j a) c ≡ held (after (after cells j a) k b) c = λ c. ap (λ u. held u c) (sym new) ∙ sym (law.1 (Some c)) ∙ ap (λ u. held u c) old in
      record {
        first = ap (λ c. (outcome c j a).reply) (sym (act-after cells y)) ∙ law.0.1.0.reply;
        second = law.0.0.reply ∙ ap (λ c. (outcome c k b).reply) (act-after cells x);
        values = record { limits = ap (λ (u : Cells). u.limits) (sym new) ∙ sym (law.1 None) ∙ ap (λ (u : Cells). u.limits) old; values = same };
      }
