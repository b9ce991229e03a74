use Rattle.std.proofs.Common.{◌⊎◌, ℕ, List, ap, inl, inr, refl, subst}
use Rattle.ft_copy.specs.Told.{Finds}
use Rattle.ft_copy.specs.declared.found.TheConstants.{ROOT}
use Rattle.ft_copy.specs.Stops.{is_folder}
use Rattle.ft_copy.proofs.copying.root_of.Goals as goal

one_of : {A B C P : Type 0} → (A → P) → (B → P) → (C → P) → A ⊎ (B ⊎ C) → P
one_of f g h (inl a) = f a
one_of f g h (inr (inl b)) = g b
one_of f g h (inr (inr c)) = h c

pub returns-in-File : goal.returns-in-File
returns-in-File g c =
    let there = c.in_ok-top.field-0 in
    let told = subst (λ (p : List ℕ). g.S.Source.tells c.args.source.now (Finds p ROOT there)) c.as_slice.ensures c.in_ok-top.ensures.ok in
    record {
      ok = tt;
      err = inr (inl (refl, (there, told, one_of (λ file. ap is_folder file.1) (λ link. ap is_folder link.1) (λ special. ap is_folder special) c.in-File.is)));
    }
