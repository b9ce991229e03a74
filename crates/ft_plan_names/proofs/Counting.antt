-- Just the steps of a plan are counted, and a plan without names has only lines without names.
use Rattle.std.proofs.Common.{◌≡◌, Option, Some, None, ℕ, Bool, true, false, cond, ◌&&◌, ◌||◌, not, List, [], ◌∷◌, refl, sym, ap, subst, ◌∙◌}
use Rattle.std.proofs.lemmas.Bool.{false≢true}
use Rattle.std.specs.Prelude.{codes, option_and_then, option_map}
use Rattle.std.specs.Cmp.Lexicographic.{bytes_decides}
use Rattle.std.specs.Str.{bytes_eq}
use Rattle.std.specs.Str.Lines.{strip_carriage_return}
use Rattle.ft_words.specs.Spelling.{is_silent, words_of}
use Rattle.ft_plan.specs.declared.job.Job.{Job}
use Rattle.ft_plan.specs.declared.job.JobKind.{JobKind}
use Rattle.ft_plan.specs.declared.job.JobKind.TheVariants.{Free, Strict, Must}
use Rattle.ft_plan.specs.declared.job.Step.{Step}
use Rattle.ft_plan.specs.declared.line.PlanLine.{PlanLine}
use Rattle.ft_plan.specs.declared.line.PlanLine.TheVariants as line
use Rattle.ft_plan.specs.Lines.{after_line, heading, is_strict_line, job_line, job_name_of, line_after, line_of, must_line, names_of, step_of, subheading}
use Rattle.ft_plan.specs.Plans.{IsPlanOf}
use Rattle.ft_plan_names.specs.Numbers.{begins, is_plain, is_plain_line, is_step, numbered_plan}
use Rattle.ft_plan_names.specs.Laws.{is_job_line, is_step_line}
use Rattle.ft_plan_names.proofs.Keeping.{text_is_plan}
use Rattle.ft_plan_names.proofs.PlanLines.{Passes, plan_passes}
use Rattle.ft_plan_names.proofs.Planned.{no_step, no_value, of_value, step_is_plain}

-- ---- what a line says

-- if it says something, then that is so
abbrev Says : (PlanLine → Type 0) → Option PlanLine → Type 0
Says P None = Unit {0}
Says P (Some said) = P said

says : (P : PlanLine → Type 0) (o : Option PlanLine) (said : PlanLine) → Says P o → o ≡ Some said → P said
says P o said h is = subst (Says P) is h

map_says : {A : Type 0} (P : PlanLine → Type 0) (f : A → PlanLine) (o : Option A) → ((x : A) → P (f x)) → Says P (option_map f o)
map_says P f None h = tt
map_says P f (Some x) h = h x

and_then_says : {A : Type 0} (P : PlanLine → Type 0) (f : A → Option PlanLine) (o : Option A) → ((x : A) → Says P (f x)) → Says P (option_and_then f o)
and_then_says P f None h = tt
and_then_says P f (Some x) h = h x

-- whether it is a step, and whether it begins a job
abbrev Is : Bool → Bool → PlanLine → Type 0
Is step job said = (step ≡ is_step_line said) × (job ≡ is_job_line said)

job_under : (kind : JobKind) (name parent : List ℕ) → Says (Is false true) (subheading kind name parent)
job_under kind name parent =
    and_then_says (Is false true) (λ n. option_map (λ p. line.Job n (Some p) kind) (job_name_of parent)) (job_name_of name)
    (λ n. map_says (Is false true) (λ p. line.Job n (Some p) kind) (job_name_of parent) (λ p. (refl, refl)))

job_headed : (kind : JobKind) (name : List ℕ) (words : List (List ℕ)) → Says (Is false true) (heading kind name words)
job_headed kind name [] = map_says (Is false true) (λ n. line.Job n None kind) (job_name_of name) (λ n. (refl, refl))
job_headed kind name (parent ∷ []) = job_under kind name parent
job_headed kind name (parent ∷ other ∷ words) = tt

job_needed : (words : List (List ℕ)) → Says (Is false true) (must_line words)
job_needed [] = tt
job_needed (name ∷ []) = tt
job_needed (name ∷ parent ∷ []) = job_under Must name parent
job_needed (name ∷ parent ∷ other ∷ words) = tt

job_said : (strict : Bool) (words : List (List ℕ)) → Says (Is false true) (job_line strict words)
job_said strict [] = tt
job_said false (word ∷ words) = job_headed Free word words
job_said true (word ∷ words) = either (bytes_eq word (codes "must"))
  where
    either : (b : Bool) → Says (Is false true) (cond b (must_line words) (heading Strict word words))
    either true = job_needed words
    either false = job_headed Strict word words

after_said : (words : List (List ℕ)) → Says (Is false false) (after_line words)
after_said words = and_then_says (Is false false) line_after (names_of words) each
  where
    each : (names : List (List ℕ)) → Says (Is false false) (line_after names)
    each [] = tt
    each (name ∷ names) = (refl, refl)

-- `after` and `strict` are no steps
no_after : (words : List (List ℕ)) → step_of false (codes "after") words ≡ None
no_after words = no_step (codes "after") words refl refl refl

no_strict : (strict : Bool) (words : List (List ℕ)) → step_of strict (codes "strict") words ≡ None
no_strict true words = no_step (codes "strict") words refl refl refl
no_strict false words = no_step (codes "strict") words refl refl refl

step_said : (o : Option Step) → Says (Is true false) (option_map line.Step o)
step_said o = map_says (Is true false) line.Step o (λ step. (refl, refl))

-- the words of a line, by what its first word is
abbrev Counts : Bool → Bool → Bool → Option PlanLine → Type 0
Counts job after strict o = Says (Is (not (job || (after || strict))) job) o

counts : (plan : Bool) (word : List ℕ) (words : List (List ℕ)) → Counts (bytes_eq word (codes "job")) (bytes_eq word (codes "after")) (bytes_eq word (codes "strict")) (line_of plan (word ∷ words))
counts plan word words = either (bytes_eq word (codes "job")) (bytes_eq word (codes "after")) (bytes_eq word (codes "strict")) plan refl refl
  where
    none : (P : PlanLine → Type 0) (o : Option Step) → o ≡ None → Says P (option_map line.Step o)
    none P o h = subst (λ (s : Option Step). Says P (option_map line.Step s)) (sym h) tt

    either : (j a s p : Bool) → bytes_eq word (codes "after") ≡ a → bytes_eq word (codes "strict") ≡ s → Counts j a s (cond j (job_line p words) (cond (p && a) (after_line words) (option_map line.Step (step_of p word words))))
    either true a s p is_after is_strict = job_said p words
    either false true s true is_after is_strict = after_said words
    either false true s false is_after is_strict = none _ (step_of false word words) (subst (λ w. step_of false w words ≡ None) (sym ((bytes_decides word (codes "after")).0 is_after)) (no_after words))
    either false false true true is_after is_strict = none _ (step_of true word words) (subst (λ w. step_of true w words ≡ None) (sym ((bytes_decides word (codes "strict")).0 is_strict)) (no_strict true words))
    either false false true false is_after is_strict = none _ (step_of false word words) (subst (λ w. step_of false w words ≡ None) (sym ((bytes_decides word (codes "strict")).0 is_strict)) (no_strict false words))
    either false false false true is_after is_strict = step_said (step_of true word words)
    either false false false false is_after is_strict = step_said (step_of false word words)

pub counted : (strict : Bool) (words : List (List ℕ)) (said : PlanLine) → line_of strict words ≡ Some said → (is_step words ≡ is_step_line said) × (begins (codes "job") words ≡ is_job_line said)
counted strict [] said h = no_value {P = _} None said refl h
counted strict (word ∷ words) said h = says (Is (is_step (word ∷ words)) (begins (codes "job") (word ∷ words))) (line_of strict (word ∷ words)) said (counts strict word words) h

-- ---- a line of a plan has no names

line_is_plain : (strict : Bool) (words : List (List ℕ)) (said : PlanLine) → line_of strict words ≡ Some said → (not (is_step words) || is_plain words) ≡ true
line_is_plain strict [] said h = no_value {P = _} None said refl h
line_is_plain strict (word ∷ words) said h = either (bytes_eq word (codes "job")) (bytes_eq word (codes "after")) (bytes_eq word (codes "strict")) strict h
  where
    step : (p : Bool) → option_map line.Step (step_of p word words) ≡ Some said → is_plain (word ∷ words) ≡ true
    step p k = let made = of_value line.Step (step_of p word words) said k in step_is_plain p word words made.0 made.1

    either : (j a s p : Bool) → cond j (job_line p words) (cond (p && a) (after_line words) (option_map line.Step (step_of p word words))) ≡ Some said → (not (not (j || (a || s))) || is_plain (word ∷ words)) ≡ true
    either true a s p k = refl
    either false true s p k = refl
    either false false true p k = refl
    either false false false true k = step true k
    either false false false false k = step false k

-- the first word of a line is `strict`
strict_is_plain : (words : List (List ℕ)) → is_strict_line words ≡ true → (not (is_step words) || is_plain words) ≡ true
strict_is_plain [] h = absurd (false≢true h)
strict_is_plain (word ∷ []) h = ap (λ s. not (not (bytes_eq word (codes "job") || (bytes_eq word (codes "after") || s))) || is_plain (word ∷ [])) h ∙ either (bytes_eq word (codes "job")) (bytes_eq word (codes "after"))
  where
    either : (j a : Bool) → (not (not (j || (a || true))) || is_plain (word ∷ [])) ≡ true
    either true a = refl
    either false true = refl
    either false false = refl
strict_is_plain (word ∷ other ∷ words) h = absurd (false≢true h)

plain_lines : Passes is_plain_line
plain_lines = record {
  silent = λ line is. ap (λ s. s || (not (is_step (words_of (strip_carriage_return line))) || is_plain (words_of (strip_carriage_return line)))) is;
  says = λ strict line said is. or_true (is_silent (strip_carriage_return line)) _ (line_is_plain strict (words_of (strip_carriage_return line)) said is);
  is_strict = λ line is. or_true (is_silent (strip_carriage_return line)) _ (strict_is_plain (words_of (strip_carriage_return line)) is);
}
  where
    or_true : (a b : Bool) → b ≡ true → (a || b) ≡ true
    or_true true b h = refl
    or_true false b h = h

pub plan_stays : (bytes : List ℕ) (jobs : List Job) → IsPlanOf bytes jobs → numbered_plan bytes ≡ bytes
plan_stays bytes jobs plan = text_is_plan bytes (plan_passes is_plain_line plain_lines refl bytes jobs plan)
