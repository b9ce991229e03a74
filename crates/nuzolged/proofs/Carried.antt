-- What a session that was taken out has carried out, its handle has.
use Rattle.std.proofs.Common.{◌≡◌, ◌≢◌, ◌⊎◌, ◌∙◌, ⊎_elim, Option, Some, sym, subst, ap, arith}
use Rattle.ft_core.specs.declared.fault.Fault.TheVariants.{Live}
use Rattle.ft_core.specs.declared.request.Answer.{Answer}
use Rattle.ft_core.specs.declared.request.Answer.TheVariants.{Cleared, Refused}
use Rattle.ft_core.specs.declared.request.Request.{Request}
use Rattle.ft_line.specs.declared.line.ScriptLine.{ScriptLine}
use Rattle.ft_session.specs.declared.last_answer.LastAnswer.{LastAnswer}
use Rattle.ft_session.specs.declared.last_answer.LastAnswer.TheVariants as last
use Rattle.ft_session.specs.declared.session.Session.{Session}
use Rattle.ft_session.specs.Sessions.{HasAnswered}
use Rattle.nuzolged.specs.declared.nuz_answer.NuzAnswer.{NuzAnswer}
use Rattle.nuzolged.specs.Numbers.{told_of, no_memory}
use Rattle.nuzolged.specs.Asked.{IsAsked}
use Rattle.nuzolged.specs.Lines.{IsLineAsked, IsLineTold}

module _ (told : NuzAnswer) (old new : Option Session) (s s' : Session) (was : Some s ≡ old) (now : new ≡ Some s') where
  pub asked : (request : Request) → ((answer : Answer) × HasAnswered s request answer s') → told ≡ told_of s'.last → IsAsked old request told new
  asked request has is = subst (λ (o : Option Session). IsAsked o request told new) was (s', has.0, now, has.1, is ∙ ap told_of (has.1.1))

  pub line_asked : (line : ScriptLine) → IsLineTold s line told s' → IsLineAsked old line told new
  line_asked line is = subst (λ (o : Option Session). IsLineAsked o line told new) was (s', now, is)

-- ---- a checkpoint

cleared : told_of (last.Answer Cleared) ≢ no_memory
cleared e = let code : 0 ≡ 1001 = ap (λ (t : NuzAnswer). t.code) e in omega (arith, code)

live : told_of (last.Answer (Refused Live)) ≢ no_memory
live e = let code : 1009 ≡ 1001 = ap (λ (t : NuzAnswer). t.code) e in omega (arith, code)

-- what it is answered is not want of memory
pub wants_none : (l : LastAnswer) → (l ≡ last.Answer Cleared) ⊎ (l ≡ last.Answer (Refused Live)) → told_of l ≢ no_memory
wants_none l has e = ⊎_elim (λ (is : l ≡ last.Answer Cleared). cleared (sym (ap told_of is) ∙ e)) (λ (is : l ≡ last.Answer (Refused Live)). live (sym (ap told_of is) ∙ e)) has
