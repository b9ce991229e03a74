-- What the status of jobs that have run says of them.
use Rattle.std.proofs.Common.{◌≡◌, ◌⊎◌, ℕ, Bool, true, false, List, Option, inl, inr, refl, ap₂, subst, arith}
use Rattle.std.specs.List.{zip}
use Rattle.ft_core.specs.States.{State}
use Rattle.ft_job_text.specs.declared.plan_end.PlanEnd.{PlanEnd}
use Rattle.ft_job_text.specs.Runs.{RunsPlan}
use Rattle.ft_plan_files.specs.declared.places.GetPlace.{GetPlace}
use Rattle.ft_plan_files.specs.declared.plan.WrittenPlan.{WrittenPlan}
use Rattle.ft_transfer.specs.Disk.{FileTold}
use Rattle.ft_run.specs.Giving.{GivesAll}
use Rattle.ft_run.specs.Statuses.{ContentsOf, RunsJobs, status_of}

pub met_at_0 : (met given : Bool) → status_of met given ≡ 0 → (met ≡ true) × (given ≡ true)
met_at_0 true true same = (refl, refl)
met_at_0 false true same = absurd (omega arith)
met_at_0 true false same = absurd (omega arith)
met_at_0 false false same = absurd (omega arith)

pub unmet_at_3 : (met given : Bool) → status_of met given ≡ 3 → (met ≡ false) × (given ≡ true)
unmet_at_3 true true same = absurd (omega arith)
unmet_at_3 false true same = (refl, refl)
unmet_at_3 true false same = absurd (omega arith)
unmet_at_3 false false same = absurd (omega arith)

pub not_given_at_1 : (met given : Bool) → status_of met given ≡ 1 → given ≡ false
not_given_at_1 true true same = absurd (omega arith)
not_given_at_1 false true same = absurd (omega arith)
not_given_at_1 met false same = refl

pub given_else : (met given : Bool) → (status_of met given ≡ 0) ⊎ (status_of met given ≡ 3) → given ≡ true
given_else met given (inl zero) = (met_at_0 met given zero).1
given_else met given (inr three) = (unmet_at_3 met given three).1

-- there is no other status
pub one_of : (met given : Bool) → (status_of met given ≡ 0) ⊎ ((status_of met given ≡ 1) ⊎ (status_of met given ≡ 3))
one_of true true = inl refl
one_of false true = inr (inr refl)
one_of met false = inr (inl refl)

-- jobs that have run, and the files that were given what they got
module _ {W E : Type 0} (tells : FileTold → Type 0) (state : State) (plan : WrittenPlan) (held : ContentsOf W) (told : ContentsOf E) (writer writer_after : W) (errors errors_after : E) where
  pub runs : (end : PlanEnd) (given : Bool) (gets : List GetPlace) (got : List (Option (List ℕ))) → gets ≡ plan.gets.items → got ≡ end.got.items → RunsPlan end state plan (held writer) (held writer_after)
      → GivesAll tells (zip gets got) given (told errors) (told errors_after) → RunsJobs tells end.met given state plan held told writer writer_after errors errors_after
  runs end given gets got gets_are got_are is_run gives = (end, refl, is_run, subst (λ (pairs : List (GetPlace × Option (List ℕ))). GivesAll tells pairs given (told errors) (told errors_after)) (ap₂ zip gets_are got_are) gives)

  pub runs_as : (met met_now given given_now : Bool) → met ≡ met_now → given ≡ given_now → RunsJobs tells met given state plan held told writer writer_after errors errors_after → RunsJobs tells met_now given_now state plan held told writer writer_after errors errors_after
  runs_as met met_now given given_now met_is given_is all =
      subst (λ (g : Bool). RunsJobs tells met_now g state plan held told writer writer_after errors errors_after) given_is (subst (λ (m : Bool). RunsJobs tells m given state plan held told writer writer_after errors errors_after) met_is all)
