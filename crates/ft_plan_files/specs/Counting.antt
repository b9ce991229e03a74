-- How the `get`s of a plan are found, line by line. No public clause cites it.
use Rattle.ft_plan_files.specs.declared.places.Gets.{Gets}
use Rattle.ft_plan_files.specs.Places.{Count}

-- the jobs and the steps so far
abbrev pub count_of : Gets → Count
count_of gets = (gets.jobs, gets.steps)
