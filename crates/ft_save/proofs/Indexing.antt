-- What an index has after a row was added.
use Rattle.std.proofs.Common.{◌≡◌, ℕ, Bool, true, false, cond, List, [], ◌∷◌, ◌++◌, map, Option, None, Some, is_some, refl, sym, ap, ◌∙◌}
use Rattle.std.proofs.lemmas.Bool.{eqb-true}
use Rattle.std.specs.Prelude.{◌==◌}
use Rattle.std.specs.Option.{unwrap_or}
use Rattle.std.specs.Ordering.{nat_cmp, eq_by_cmp}
use Rattle.std.specs.Cmp.{nat_cmp_total, unsigned_ties, eq_by_cmp_equiv}
use Rattle.std.specs.FinMap as finite
use Rattle.ft_cells.specs.declared.attributes.Attributes.{Attributes as CellAttributes}
use Rattle.ft_cells.specs.declared.attributes.Timestamp.{Timestamp}
use Rattle.ft_cells.specs.declared.node.Form.{Form}
use Rattle.ft_save.specs.declared.index.Edge.{Edge as IndexEdge}
use Rattle.ft_save.specs.declared.index.Index.{Index}
use Rattle.ft_save.specs.declared.row.Row.{Row}
use Rattle.ft_save.specs.declared.row.Row.TheVariants.{Folder, Edge, File, Attributes, Time}
use Rattle.ft_save.specs.Trees.{Indexes, PutsName, listed, named_in, names_at, own_in}

turned : (k q : ℕ) → (k == q) ≡ eq_by_cmp nat_cmp q k
turned k q = unsigned_ties k q ∙ (eq_by_cmp_equiv nat_cmp_total).symm k q

module _ {X : Type 0} where
  pub get-put : (m : finite.FinMap nat_cmp X) (k : ℕ) (v : X) (q : ℕ) → finite.get (finite.insert m k v) q ≡ cond (k == q) (Some v) (finite.get m q)
  get-put m k v q = finite.get-insert nat_cmp_total m k v q ∙ ap (λ b. cond b (Some v) (finite.get m q)) (sym (turned k q))

  pub get-gone : (m : finite.FinMap nat_cmp X) (k q : ℕ) → finite.get (finite.remove m k) q ≡ cond (k == q) None (finite.get m q)
  get-gone m k q = finite.get-remove nat_cmp_total m k q ∙ ap (λ b. cond b None (finite.get m q)) (sym (turned k q))

-- where one value is set, and the rest is what rows tell
by_test : {A : Type 0} (b : Bool) (x y z : A) → y ≡ z → cond b x y ≡ cond b x z
by_test b x y z h = ap (cond b x) h

-- a table of what is there, and whether more than once, where one is counted more
counted : (table : finite.FinMap nat_cmp Bool) (told : ℕ → Option Bool) → ((q : ℕ) → finite.get table q ≡ told q) → (node q : ℕ)
    → finite.get (finite.insert table node (finite.contains_key table node)) q ≡ cond (node == q) (Some (is_some (told q))) (told q)
counted table told is node q = get-put table node (finite.contains_key table node) q ∙ once (node == q) refl
  where
    once : (b : Bool) → (node == q) ≡ b → cond b (Some (finite.contains_key table node)) (finite.get table q) ≡ cond b (Some (is_some (told q))) (told q)
    once true same = ap (λ n. Some (finite.contains_key table n)) (eqb-true node q same) ∙ ap (λ o. Some (is_some o)) (is q)
    once false same = is q

-- one row more is noted
abbrev pub CountsRow : Index → ℕ → Index → Type 0
CountsRow old node new = new ≡ record old { own = finite.insert old.own node (finite.contains_key old.own node) }

module _ (index : Index) (rows : List Row) (h : Indexes index rows) where
  pub adds_folder : (node : ℕ) (new : Index) → CountsRow index node new → Indexes new (Folder node ∷ rows)
  adds_folder node new is = record {
    own = λ q. ap (λ (i : Index). finite.get i.own q) is ∙ counted index.own (own_in rows) h.own node q;
    files = λ q. ap (λ (i : Index). finite.get i.files q) is ∙ h.files q;
    names = λ q. ap (λ (i : Index). names_at i q) is ∙ h.names q;
    named = λ q. ap (λ (i : Index). finite.get i.named q) is ∙ h.named q;
    attributes = λ q. ap (λ (i : Index). finite.get i.attributes q) is ∙ h.attributes q;
    times = λ q. ap (λ (i : Index). finite.get i.times q) is ∙ h.times q;
  }

  pub adds_file : (node : ℕ) (form : Form) (bytes : List ℕ) (middle new : Index) → middle.files ≡ finite.insert index.files node (record { form = form; bytes = bytes }) → middle.own ≡ index.own → middle.edges ≡ index.edges → middle.named ≡ index.named
      → middle.attributes ≡ index.attributes → middle.times ≡ index.times → CountsRow middle node new → Indexes new (File node form bytes ∷ rows)
  adds_file node form bytes middle new files own edges named attributes times is = record {
    own = λ q. ap (λ (i : Index). finite.get i.own q) is ∙ counted middle.own (own_in rows) (λ k. ap (λ m. finite.get m k) own ∙ h.own k) node q;
    files = λ q. ap (λ (i : Index). finite.get i.files q) is ∙ ap (λ m. finite.get m q) files ∙ get-put index.files node (record { form = form; bytes = bytes }) q ∙ by_test (node == q) (Some (record { form = form; bytes = bytes })) _ _ (h.files q);
    names = λ q. ap (λ (i : Index). names_at i q) is ∙ ap (λ m. map listed (unwrap_or (finite.get m q) [])) edges ∙ h.names q;
    named = λ q. ap (λ (i : Index). finite.get i.named q) is ∙ ap (λ m. finite.get m q) named ∙ h.named q;
    attributes = λ q. ap (λ (i : Index). finite.get i.attributes q) is ∙ ap (λ m. finite.get m q) attributes ∙ h.attributes q;
    times = λ q. ap (λ (i : Index). finite.get i.times q) is ∙ ap (λ m. finite.get m q) times ∙ h.times q;
  }

  pub adds_attributes : (node : ℕ) (attributes : CellAttributes) (new : Index) → new.attributes ≡ finite.insert index.attributes node attributes → new.own ≡ index.own → new.edges ≡ index.edges → new.files ≡ index.files
      → new.named ≡ index.named → new.times ≡ index.times → Indexes new (Attributes node attributes ∷ rows)
  adds_attributes node attributes new puts own edges files named times = record {
    own = λ q. ap (λ m. finite.get m q) own ∙ h.own q;
    files = λ q. ap (λ m. finite.get m q) files ∙ h.files q;
    names = λ q. ap (λ m. map listed (unwrap_or (finite.get m q) [])) edges ∙ h.names q;
    named = λ q. ap (λ m. finite.get m q) named ∙ h.named q;
    attributes = λ q. ap (λ m. finite.get m q) puts ∙ get-put index.attributes node attributes q ∙ by_test (node == q) (Some attributes) _ _ (h.attributes q);
    times = λ q. ap (λ m. finite.get m q) times ∙ h.times q;
  }

  pub adds_time : (node : ℕ) (time : Timestamp) (new : Index) → new.times ≡ finite.insert index.times node time → new.own ≡ index.own → new.edges ≡ index.edges → new.files ≡ index.files
      → new.named ≡ index.named → new.attributes ≡ index.attributes → Indexes new (Time node time ∷ rows)
  adds_time node time new puts own edges files named attributes = record {
    own = λ q. ap (λ m. finite.get m q) own ∙ h.own q;
    files = λ q. ap (λ m. finite.get m q) files ∙ h.files q;
    names = λ q. ap (λ m. map listed (unwrap_or (finite.get m q) [])) edges ∙ h.names q;
    named = λ q. ap (λ m. finite.get m q) named ∙ h.named q;
    attributes = λ q. ap (λ m. finite.get m q) attributes ∙ h.attributes q;
    times = λ q. ap (λ m. finite.get m q) puts ∙ get-put index.times node time q ∙ by_test (node == q) (Some time) _ _ (h.times q);
  }

  pub adds_edge : (folder node : ℕ) (name : List ℕ) (middle new : Index) → middle.named ≡ finite.insert index.named node (finite.contains_key index.named node)
      → middle.own ≡ index.own → middle.files ≡ index.files → middle.edges ≡ index.edges → middle.attributes ≡ index.attributes → middle.times ≡ index.times → PutsName middle folder (record { name = name; node = node }) new → Indexes new (Edge folder name node ∷ rows)
  adds_edge folder node name middle new named own files edges attributes times puts = record {
    own = λ q. ap (λ m. finite.get m q) (puts.own ∙ own) ∙ h.own q;
    files = λ q. ap (λ m. finite.get m q) (puts.files ∙ files) ∙ h.files q;
    names = λ q. puts.names q ∙ ap (λ l. cond (folder == q) (l ++ record { name = name; node = node } ∷ []) l) (ap (λ m. map listed (unwrap_or (finite.get m q) [])) edges ∙ h.names q);
    named = λ q. ap (λ m. finite.get m q) (puts.named ∙ named) ∙ counted index.named (named_in rows) h.named node q;
    attributes = λ q. ap (λ m. finite.get m q) (puts.attributes ∙ attributes) ∙ h.attributes q;
    times = λ q. ap (λ m. finite.get m q) (puts.times ∙ times) ∙ h.times q;
  }

mapped_more : (items : List IndexEdge) (edge : IndexEdge) → map listed (items ++ edge ∷ []) ≡ map listed items ++ listed edge ∷ []
mapped_more [] edge = refl
mapped_more (item ∷ items) edge = ap (λ l. listed item ∷ l) (mapped_more items edge)

-- the names of a directory were taken out, and put back with one more
pub puts : (old new : Index) (folder : ℕ) (edge : IndexEdge) (items : List IndexEdge) → items ≡ unwrap_or (finite.get old.edges folder) []
    → new.edges ≡ finite.insert (finite.remove old.edges folder) folder (items ++ edge ∷ []) → new.own ≡ old.own → new.files ≡ old.files → new.named ≡ old.named → new.attributes ≡ old.attributes → new.times ≡ old.times
    → PutsName old folder edge new
puts old new folder edge items taken edges own files named attributes times = record {
  names = λ q. ap (λ m. map listed (unwrap_or (finite.get m q) [])) edges ∙ ap (λ o. map listed (unwrap_or o [])) (get-put (finite.remove old.edges folder) folder (items ++ edge ∷ []) q) ∙ here q (folder == q) refl;
  own = own;
  files = files;
  named = named;
  attributes = attributes;
  times = times;
}
  where
    here : (q : ℕ) (b : Bool) → (folder == q) ≡ b
        → map listed (unwrap_or (cond b (Some (items ++ edge ∷ [])) (finite.get (finite.remove old.edges folder) q)) []) ≡ cond b (names_at old q ++ listed edge ∷ []) (names_at old q)
    here q true is = mapped_more items edge ∙ ap (λ l. map listed l ++ listed edge ∷ []) (taken ∙ ap (λ k. unwrap_or (finite.get old.edges k) []) (eqb-true folder q is))
    here q false is = ap (λ o. map listed (unwrap_or o [])) (get-gone old.edges folder q ∙ ap (λ b. cond b None (finite.get old.edges q)) is)

-- where no rows were added
pub adds_nothing : (index : Index) → index.own ≡ finite.empty → index.files ≡ finite.empty → index.edges ≡ finite.empty → index.named ≡ finite.empty → index.attributes ≡ finite.empty
    → index.times ≡ finite.empty → Indexes index []
adds_nothing index own files edges named attributes times = record {
  own = λ q. ap (λ m. finite.get m q) own ∙ finite.get-empty nat_cmp q;
  files = λ q. ap (λ m. finite.get m q) files ∙ finite.get-empty nat_cmp q;
  names = λ q. ap (λ m. map listed (unwrap_or (finite.get m q) [])) edges ∙ ap (λ o. map listed (unwrap_or o [])) (finite.get-empty nat_cmp q);
  named = λ q. ap (λ m. finite.get m q) named ∙ finite.get-empty nat_cmp q;
  attributes = λ q. ap (λ m. finite.get m q) attributes ∙ finite.get-empty nat_cmp q;
  times = λ q. ap (λ m. finite.get m q) times ∙ finite.get-empty nat_cmp q;
}
