-- A call that is kept in a log: an empty undo is put in front of its transaction's list, and
-- filled there.
use Rattle.std.proofs.Common.{◌≡◌, ◌≢◌, ℕ, true, ◌∷◌, drop, slice_get, Option, Some, None, IsSome, refl, sym, ap, subst, ◌∙◌}
use Rattle.std.proofs.lemmas.Bool.{false≢true}
use Rattle.std.specs.Option.{unwrap_or, option_copied_mut}
use Rattle.std.specs.Borrow.{MutBor}
use Rattle.std.specs.FinMap as finite
use Rattle.ft_laws.proofs.Tests.{by_number}
use Rattle.ft_owned_lists.specs.OwnedLists.{Lists, list_in}
use Rattle.ft_history.specs.Logs.{pushed, popped, rest}
use Rattle.ft_history.proofs.Words.{put_same, put_other}
use Rattle.ft_undo.specs.declared.logs.LogRecord.{LogRecord}
use Rattle.ft_undo.specs.Logs.{is_open, AreLists, AreOpen}
use Rattle.ft_undo.proofs.Logging.{lists-set, open-set}

lends : {E : Type 0} (r : Option (MutBor E)) (o : Option E) → option_copied_mut r ≡ o → IsSome o → IsSome r
lends (Some x) o is some = refl
lends None o is some = absurd (false≢true (subst IsSome (sym is) some))

module _ (old mid : Lists LogRecord) (txn : ℕ) (start : LogRecord) (started : mid ≡ finite.insert old txn (start ∷ list_in old txn)) where
  listed : list_in mid txn ≡ start ∷ list_in old txn
  listed = lists-set old mid txn (start ∷ list_in old txn) started txn ∙ put_same (list_in old) txn (start ∷ list_in old txn) txn refl

  others : (x : ℕ) → x ≢ txn → list_in mid x ≡ list_in old x
  others x ne = lists-set old mid txn (start ∷ list_in old txn) started x ∙ put_other (list_in old) txn (start ∷ list_in old txn) x ne

  -- its newest is there to be filled
  pub newest-there : (r : Option (MutBor LogRecord)) → option_copied_mut r ≡ slice_get (list_in mid txn) 0 → IsSome r
  newest-there r value = lends r _ (value ∙ ap (λ l. slice_get l 0) listed) refl

  pub newest-is : (r : Option (MutBor LogRecord)) (x : MutBor LogRecord) → option_copied_mut r ≡ slice_get (list_in mid txn) 0 → r ≡ Some x → x.now ≡ start
  newest-is r x value is = ap (λ o. unwrap_or o start) (ap option_copied_mut (sym is) ∙ value ∙ ap (λ l. slice_get l 0) listed)

  module _ (open_old : is_open old txn ≡ true) (filled : LogRecord) (new : Lists LogRecord) (set : new ≡ finite.insert mid txn (filled ∷ drop 1 (list_in mid txn))) where
    top : filled ∷ drop 1 (list_in mid txn) ≡ filled ∷ list_in old txn
    top = ap (λ l. filled ∷ drop 1 l) listed

    kept-lists : AreLists new (pushed (list_in old) txn filled)
    kept-lists x =
        lists-set mid new txn _ set x
        ∙ by_number x txn
        (λ e. put_same (list_in mid) txn _ x e ∙ top ∙ sym (put_same (list_in old) txn (filled ∷ list_in old txn) x e))
        (λ ne. put_other (list_in mid) txn _ x ne ∙ others x ne ∙ sym (put_other (list_in old) txn (filled ∷ list_in old txn) x ne))

    pub kept-as : (now : Lists LogRecord) (stamp : ℕ) → old ≡ now → filled.stamp ≡ stamp → AreLists new (pushed (list_in now) txn (record { stamp = stamp; undo = filled.undo }))
    kept-as now stamp same is x = kept-lists x ∙ (λ i. pushed (list_in (same i)) txn (record { stamp = is i; undo = filled.undo }) x)

    pub kept-open : AreOpen new (is_open old)
    kept-open x = let same = open-set old mid txn _ started open_old in open-set mid new txn _ set (same txn ∙ open_old) x ∙ same x

    -- and where it is taken out again, the lists are as they were
    pub dropped-lists : (last : Lists LogRecord) → AreLists last (popped (list_in new) (Some txn)) → AreLists last (list_in old)
    dropped-lists last are x =
        are x
        ∙ by_number x txn
        (λ e. put_same (list_in new) txn (rest (list_in new txn)) x e ∙ ap rest (kept-lists txn ∙ put_same (list_in old) txn (filled ∷ list_in old txn) txn refl) ∙ ap (list_in old) (sym e))
        (λ ne. put_other (list_in new) txn (rest (list_in new txn)) x ne ∙ kept-lists x ∙ put_other (list_in old) txn (filled ∷ list_in old txn) x ne)
