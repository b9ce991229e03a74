-- The views that a name refers to, and the value of a prefix.
use Rattle.std.specs.Prelude.{List, refl}
use Rattle.std.specs.FinMap as finite
use Rattle.std.specs.Coded.{Coded, code_by, coded×, coded_list}
use Rattle.logbook.specs.Pages.{Book, book_coded}
use Rattle.ft_cells.specs.Limits.{default_limits}
use Rattle.ft_cells.specs.Plain.{PlainTree}
use Rattle.ft_posix.specs.declared.stamped.StampedCall.{StampedCall}
use Rattle.ft_posix.specs.contracts.stamped.StampedCall as stamped

-- the views that a name refers to: their book, and the tree from which their calls start
pub record Views : Type 0 where
  pub book : Book
  pub base : PlainTree

-- the views of a name for which none were picked yet
abbrev pub no_views : Views
no_views = record {
  book = record { number = 0; log_name = 0; cells_name = 0 };
  base = record { limits = default_limits; edges = finite.empty; dirs = finite.empty; files = finite.empty; opens = finite.empty };
}

-- a prefix of a book's history
pub record SeenPrefix : Type 0 where
  pub book : Book
  pub calls : List StampedCall

-- the code of a list of calls
abbrev pub coded_calls : Coded (List StampedCall)
coded_calls = coded_list stamped.the_row.coded

-- the code of a prefix of a history
abbrev pub coded_prefix : Coded SeenPrefix
coded_prefix = code_by (Book × List StampedCall) (coded× book_coded coded_calls) (λ f. (f.book, f.calls)) (λ p. record { book = p.0; calls = p.1 }) (λ _. refl)
