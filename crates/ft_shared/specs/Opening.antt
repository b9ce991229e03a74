-- Views that were opened, and are not named yet.
use Rattle.std.specs.Prelude.{◌≡◌, true, [], refl}
use Rattle.std.specs.Coded.{Coded, code_by, coded×}
use Rattle.logbook.specs.Pages.{Book, book_coded}
use Rattle.ft_cells.specs.Plain.{PlainTree}
use Rattle.ft_core.specs.declared.fault.Fault.TheVariants.{Live}
use Rattle.ft_core.specs.Living.{SomeIsLive, NoneIsLive}
use Rattle.ft_core.specs.States.{State, StoredState, coded_stored}
use Rattle.ft_view.specs.ViewNames.{SeenPrefix}
use Rattle.ft_view.specs.Shown.{Shown}
use Rattle.ft_view.specs.declared.reader.ViewFault.TheVariants.{Memory}
use Rattle.ft_shared.specs.Origins.{Origin}
use Rattle.ft_shared.specs.declared.opened.Cause.{Cause}
use Rattle.ft_shared.specs.declared.opened.Cause.TheVariants.{Fault as FaultCause, View as ViewCause}

-- views that have no name yet: their core and their book
pub record Opening : Type 0 where
  pub core : StoredState
  pub book : Book

-- how they are coded
abbrev pub coded_opening : Coded Opening
coded_opening = code_by (StoredState × Book) (coded× coded_stored book_coded) (λ o. (o.core, o.book)) (λ p. record { core = p.0; book = p.1 }) (λ _. refl)

-- Both copies are this tree, with nothing in their list.
pub record AreCopies (base : PlainTree) (book : Book) (nothing : SeenPrefix) (first second : Shown) : Type 0 where
  pub of_book : nothing.book ≡ book
  pub empty : nothing.calls ≡ []
  pub one : first ≡ record { tree = base; front = nothing }
  pub other : second ≡ record { tree = base; front = nothing }

-- the tree is that of the core's base
abbrev pub IsOpened : State → Book → SeenPrefix → Shown → Shown → Type 0
IsOpened core book nothing first second = AreCopies core.base.tree book nothing first second

-- what a name of them names: the core as it is now, with these views
abbrev pub named_by : Opening → Origin
named_by o = record { from = o.core.state; shown = true; book = o.book }

-- Why a core in this state has no views: a transaction is live; or none is, and there was no
-- memory.
abbrev pub IsRefused : State → Cause → Type 0
IsRefused s (FaultCause fault) = (fault ≡ Live) × SomeIsLive s
IsRefused s (ViewCause fault) = (fault ≡ Memory) × NoneIsLive s

-- The reasons why views get no name: there was no memory, or no place for the reader. Nothing of
-- the core prevents it any more.
abbrev pub IsNameless : Cause → Type 0
IsNameless (FaultCause fault) = ⊥
IsNameless (ViewCause fault) = Unit {0}
