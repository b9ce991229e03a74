-- The text of an answer, as a script's reply shows it. (The format is this project's own:
-- docs/SCRIPT.md.)
use Rattle.std.specs.Prelude.{ℕ, List, ◌∷◌, ◌++◌, codes}
use Rattle.std.specs.Fmt.{decimal}
use Rattle.std.specs.List.{flat_map}
use Rattle.ft_core.specs.declared.fault.Fault.{Fault}
use Rattle.ft_core.specs.declared.fault.Fault.TheVariants as faults
use Rattle.ft_core.specs.declared.request.Answer.{Answer}
use Rattle.ft_core.specs.declared.request.Answer.TheVariants.{Txn, Granted, Waits, Dropped, Committed, Aborted, Undone, Cleared, Refused}
use Rattle.ft_words.specs.Texts.{reply_text}

-- each transaction's number after a space
abbrev pub txn_list : List ℕ → List ℕ
txn_list txns = flat_map (λ txn. 32 ∷ decimal txn) txns

-- the name of a refusal
abbrev pub fault_name : Fault → List ℕ
fault_name faults.Memory = codes "Memory"
fault_name faults.NoTxn = codes "NoTxn"
fault_name faults.Ended = codes "Ended"
fault_name faults.ChildLive = codes "ChildLive"
fault_name faults.NothingToUndo = codes "NothingToUndo"
fault_name faults.SubSince = codes "SubSince"
fault_name faults.Full = codes "Full"
fault_name faults.Deep = codes "Deep"
fault_name faults.Live = codes "Live"
fault_name faults.NoAsk = codes "NoAsk"
fault_name faults.NoViews = codes "NoViews"
fault_name faults.BadLimits = codes "BadLimits"

-- the text of an answer, without the line feed after it
abbrev pub text_of : Answer → List ℕ
text_of (Txn txn) = codes "txn " ++ decimal txn
text_of (Granted stamp reply) = decimal stamp ++ codes " " ++ reply_text reply
text_of (Waits blockers) = codes "waits" ++ txn_list blockers
text_of Dropped = codes "ok"
text_of Committed = codes "ok"
text_of (Aborted calls) = codes "ok"
text_of (Undone stamp) = codes "undone " ++ decimal stamp
text_of Cleared = codes "ok"
text_of (Refused fault) = codes "refused " ++ fault_name fault
