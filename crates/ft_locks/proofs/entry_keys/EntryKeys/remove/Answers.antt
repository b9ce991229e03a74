use Rattle.std.proofs.Common.{◌≡◌, ◌≢◌, ◌==◌, ◌+◌, ◌-◌, ◌<◌, ℕ, length, get_or, cond, Some, None, is_some, ap, sym, subst, ◌∙◌}
use Rattle.std.proofs.lemmas.Bool.{eqb-true}
use Rattle.std.specs.List.{slice_get}
use Rattle.std.specs.Option.{option_copied_mut}
use Rattle.ft_locks.specs.EntryKeys.{listed_keys, key_at}
use Rattle.ft_lock_rules.proofs.Cases.{none_if, some_if}
use Rattle.ft_locks.proofs.EntryKeys.{list-changed, list-dropped, both_tests, nested_tests, found-at, slice_within, got-last, got-moved, got-others}
use Rattle.ft_locks.proofs.entry_keys.EntryKeys.remove.Goals as goal

pub returns-then-is_last-clause-none : goal.returns-then-is_last-clause-none
returns-then-is_last-clause-none c =
    let keys = c.in_ok-keys.keys.now in
    let here = sym (ap option_copied_mut c.in_ok-keys.was) ∙ c.get_mut.ensures.value in
    let within = slice_within keys.items c.args.place (ap (λ o. is_some (slice_get (listed_keys o) c.args.place)) here ∙ c.requires) in
    let shorter = ap (λ n. n + 1) (sym c.swap_remove.new.self.ok.0) ∙ c.swap_remove.ensures.len ∙ keys.ok.0 in
    let swapped = subst (λ n. ((d : ℕ) → c.args.place + 1 < n → get_or c.swap_remove.new.self.items c.args.place d ≡ get_or c.in_ok-keys.keys.now.items (n - 1) d) × ((k d : ℕ) → k ≢ c.args.place → k + 1 < n → get_or c.swap_remove.new.self.items k d ≡ get_or c.in_ok-keys.keys.now.items k d)) keys.ok.0 c.swap_remove.ensures.by_index in
    let look = c.copied-moved.ensures ∙ found-at c.deref.result.now c.args.place c.get.result c.get.ensures.lookup ∙ ap (λ xs. slice_get xs c.args.place) c.deref.ensures.value in
    none_if c.copied-moved.result _ (λ none t.
    ap (λ m. key_at m t.0 t.1) c.remove.ensures.after ∙ list-dropped c.args.self.now.keys c.args.dir c.swap_remove.new.self (eqb-true _ 0 (sym c.is_empty-is_last.ensures ∙ c.if-is_last.true)) t
    ∙ list-changed c.args.self.now.keys c.args.dir c.swap_remove.new.self (Some c.in_ok-keys.keys.now) (λ p o. cond (p == c.args.place) None o) here (got-last keys.items c.swap_remove.new.self.items c.args.place within shorter swapped (sym look ∙ none)) t
    ∙ both_tests (t.0 == c.args.dir) (t.1 == c.args.place) None (key_at c.args.self.now.keys t.0 t.1))

pub returns-else-is_last-clause-none : goal.returns-else-is_last-clause-none
returns-else-is_last-clause-none c =
    let keys = c.in_ok-keys.keys.now in
    let here = sym (ap option_copied_mut c.in_ok-keys.was) ∙ c.get_mut.ensures.value in
    let within = slice_within keys.items c.args.place (ap (λ o. is_some (slice_get (listed_keys o) c.args.place)) here ∙ c.requires) in
    let shorter = ap (λ n. n + 1) (sym c.swap_remove.new.self.ok.0) ∙ c.swap_remove.ensures.len ∙ keys.ok.0 in
    let swapped = subst (λ n. ((d : ℕ) → c.args.place + 1 < n → get_or c.swap_remove.new.self.items c.args.place d ≡ get_or c.in_ok-keys.keys.now.items (n - 1) d) × ((k d : ℕ) → k ≢ c.args.place → k + 1 < n → get_or c.swap_remove.new.self.items k d ≡ get_or c.in_ok-keys.keys.now.items k d)) keys.ok.0 c.swap_remove.ensures.by_index in
    let look = c.copied-moved.ensures ∙ found-at c.deref.result.now c.args.place c.get.result c.get.ensures.lookup ∙ ap (λ xs. slice_get xs c.args.place) c.deref.ensures.value in
    none_if c.copied-moved.result _ (λ none t.
    list-changed c.args.self.now.keys c.args.dir c.swap_remove.new.self (Some c.in_ok-keys.keys.now) (λ p o. cond (p == c.args.place) None o) here (got-last keys.items c.swap_remove.new.self.items c.args.place within shorter swapped (sym look ∙ none)) t
    ∙ both_tests (t.0 == c.args.dir) (t.1 == c.args.place) None (key_at c.args.self.now.keys t.0 t.1))

pub returns-else-is_last-clause-moved : goal.returns-else-is_last-clause-moved
returns-else-is_last-clause-moved c =
    let keys = c.in_ok-keys.keys.now in
    let here = sym (ap option_copied_mut c.in_ok-keys.was) ∙ c.get_mut.ensures.value in
    let within = slice_within keys.items c.args.place (ap (λ o. is_some (slice_get (listed_keys o) c.args.place)) here ∙ c.requires) in
    let shorter = ap (λ n. n + 1) (sym c.swap_remove.new.self.ok.0) ∙ c.swap_remove.ensures.len ∙ keys.ok.0 in
    let swapped = subst (λ n. ((d : ℕ) → c.args.place + 1 < n → get_or c.swap_remove.new.self.items c.args.place d ≡ get_or c.in_ok-keys.keys.now.items (n - 1) d) × ((k d : ℕ) → k ≢ c.args.place → k + 1 < n → get_or c.swap_remove.new.self.items k d ≡ get_or c.in_ok-keys.keys.now.items k d)) keys.ok.0 c.swap_remove.ensures.by_index in
    let look = c.copied-moved.ensures ∙ found-at c.deref.result.now c.args.place c.get.result c.get.ensures.lookup ∙ ap (λ xs. slice_get xs c.args.place) c.deref.ensures.value in
    some_if c.copied-moved.result _ (λ moved some.
    let last = got-moved keys.items c.swap_remove.new.self.items c.args.place within shorter swapped moved (sym look ∙ some) in
    record {
      last = length keys.items - 1;
      apart = last.0;
      was = sym (ap (λ o. slice_get (listed_keys o) (length keys.items - 1)) here) ∙ last.1;
      keys = λ t.
          list-changed c.args.self.now.keys c.args.dir c.swap_remove.new.self (Some c.in_ok-keys.keys.now) (λ p o. cond (p == c.args.place) (Some moved) (cond (p == length c.in_ok-keys.keys.now.items - 1) None o)) here
          (got-others keys.items c.swap_remove.new.self.items c.args.place within shorter swapped moved (sym look ∙ some)) t
          ∙ nested_tests (t.0 == c.args.dir) (t.1 == c.args.place) (t.1 == length keys.items - 1) (Some moved) None (key_at c.args.self.now.keys t.0 t.1);
    })
