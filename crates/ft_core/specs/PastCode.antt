-- Codes of what a past keeps.
use Rattle.std.specs.Prelude.{List}
use Rattle.std.specs.Coded.{Coded, coded_list}
use Rattle.ft_cells.specs.Plain.{PlainTree}
use Rattle.ft_cells.specs.PlainCode.{coded_tree}
use Rattle.ft_core.specs.declared.request.Event.{Event}
use Rattle.ft_posix.specs.declared.call.Access.{Access}
use Rattle.ft_posix.specs.contracts.call.Access as access
use Rattle.ft_core.specs.contracts.request.Event as event

abbrev pub coded_events : Coded (List Event)
coded_events = coded_list event.the_row.coded

abbrev pub coded_base_tree : Coded PlainTree
coded_base_tree = coded_tree

abbrev pub coded_accesses : Coded (List Access)
coded_accesses = coded_list access.the_row.coded
