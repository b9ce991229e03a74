-- The steps from one tree of directories to another, and their text.
use Rattle.std.specs.Prelude.{ℕ, List, [], ◌∷◌, ◌++◌, codes}
use Rattle.ft_copy.specs.declared.found.Found.{Found}
use Rattle.ft_copy.specs.declared.found.Found.TheVariants as found
use Rattle.ft_into.specs.declared.step.Act.{Act}
use Rattle.ft_into.specs.declared.step.Act.TheVariants.{Add, Change, Remove}
use Rattle.ft_into.specs.declared.step.Step.{Step}
use Rattle.ft_into.specs.declared.step.Thing.{Thing}
use Rattle.ft_into.specs.declared.step.Thing.TheVariants as things
use Rattle.ft_words.specs.Texts.{coded}

-- what was found
abbrev pub thing_of : Found → Thing
thing_of (found.Folder folder) = things.Folder
thing_of (found.File file) = things.File
thing_of (found.Symlink facts) = things.Symlink
thing_of found.Special = things.Special

-- the words of a step
abbrev pub act_text : Act → List ℕ
act_text Add = codes "add"
act_text Change = codes "change"
act_text Remove = codes "remove"

abbrev pub thing_text : Thing → List ℕ
thing_text things.Folder = codes "dir"
thing_text things.File = codes "file"
thing_text things.Link = codes "link"
thing_text things.Symlink = codes "symlink"
thing_text things.Special = codes "special"

-- a path as it is shown: that of the root as a slash
abbrev pub shown_path : List ℕ → List ℕ
shown_path [] = codes "/"
shown_path (first ∷ more) = first ∷ more

-- `ACT THING PATH`, the path coded
abbrev pub step_text : Step → List ℕ
step_text step = act_text step.act ++ 32 ∷ thing_text step.thing ++ 32 ∷ coded (shown_path step.path)
