-- What `verify` puts of the CAR of a sound DAG's own traversal.
use Rattle.std.proofs.Common.{All, List, append-nil, length, None, Option, Some, [], ap, arith, map, subst, sym, ℕ, ◌++◌, ◌∙◌, ◌∷◌, ◌≡◌, ◌≤◌}
use Rattle.std.proofs.lemmas.List.Elements.{All-cons, All-nil}
use Rattle.tg_app.proofs.Endings.{whole_is}
use Rattle.tg_app.proofs.Refusals.{verify_own}
use Rattle.tg_app.proofs.Statuses.{not_zero}
use Rattle.tg_commands.specs.Lines.{exit_status}
use Rattle.tg_commands.specs.Verify.{IsItsCar, VerifyEnds}
use Rattle.tg_commands.specs.declared.fault.CommandFault.{CommandFault}
use Rattle.tg_client.specs.Received.{HasReceived, IsCarOf}
use Rattle.tg_client.specs.ReceivedLaws.{ReceivedLaws}
use Rattle.tg_model.specs.Answer.{answer}
use Rattle.tg_model.specs.Counts.{greatest}
use Rattle.tg_model.specs.Dag.{Dag, Section, root_cid}
use Rattle.tg_model.specs.Fits.{Fits, HasOneBlockEach, IfOnce}
use Rattle.tg_model.specs.LimitNumbers.{standard}
use Rattle.tg_model.specs.Queries.{QueryParts}
use Rattle.tg_model.specs.Sound.{IsSound}
use Rattle.tg_model.specs.Traversal.{block_list, opened_list}
use Rattle.tg_streams.specs.Streams.{Input, Output, Put}
use Rattle.tg_verify.specs.Laws.{ThroughFits}

-- sections fit in one way at most
abbrev pub FitsAlike : Type 0
FitsAlike = (q : QueryParts) (sections : List Section) (a b : Dag) (x y : List ℕ) → Fits a q sections x → Fits b q sections y → (a ≡ b) × (x ≡ y)

-- those of a sound DAG's own traversal fit
abbrev pub OwnFits : Type 0
OwnFits = (q : QueryParts) (d : Dag) (text : List ℕ) → IsSound d → root_cid d ≡ q.root → IfOnce q.dups (HasOneBlockEach (opened_list q d)) → answer q d ≡ Some text
    → (s : Dag) × Fits s q (block_list q d) text

pub record AnswerTexts : Type 0 where
  pub through : ThroughFits
  pub received : ReceivedLaws
  pub alike : FitsAlike
  pub own : OwnFits

-- none of these blocks is larger than the largest
pub all_within : (sections : List Section) (most : ℕ) → greatest (map (λ section. length section.block) sections) ≤ most → All (λ (section : Section). length section.block ≤ most) sections
all_within [] most few = All-nil (λ (section : Section). length section.block ≤ most)
all_within (section ∷ sections) most few =
    All-cons (λ (section : Section). length section.block ≤ most) section sections (omega (arith, few)) (all_within sections most (omega (arith, few)))

pub own_answer_of : AnswerTexts → (q : QueryParts) (d : Dag) (text bytes : List ℕ) (input : Input) (out : Output) (end : Option CommandFault) → exit_status end ≡ 0 → VerifyEnds q input out end
    → input.left_old ≡ Some bytes → IsItsCar q d text bytes → Put text out
own_answer_of laws q d text bytes input out (Some refusal) zero ends told its = absurd (not_zero refusal (verify_own ends.fault refusal ends.tells) zero)
own_answer_of laws q d text bytes input out None zero ends told its =
    let did = ends.verifies in
    let heard : did.heard ++ did.unheard ≡ bytes = whole_is (did.heard ++ did.unheard) bytes input.left_new (sym told ∙ did.took.left) did.ends.0.ended.nothing in
    let all : did.heard ≡ bytes = sym (append-nil did.heard) ∙ (ap (λ (l : List ℕ). did.heard ++ l) (sym did.ends.0.all) ∙ heard) in
    let own : HasReceived standard.block did.heard (block_list q d) =
    laws.received.whole standard.block did.heard (block_list q d) (subst (λ (l : List ℕ). IsCarOf l (block_list q d)) (sym all) its.is_car) (all_within (block_list q d) standard.block its.within.block) in
    let same : did.sections ≡ block_list q d = laws.received.one standard.block did.heard did.sections (block_list q d) did.received own in
    let mine = laws.own q d text its.sound its.root its.one_each its.answers in
    let theirs = laws.through q standard did.sections did.text did.ends.1.through in
    let fits : Fits theirs.s q (block_list q d) did.text = subst (λ (l : List Section). Fits theirs.s q l did.text) same theirs.fits in
    subst (λ (l : List ℕ). Put l out) (laws.alike q (block_list q d) theirs.s mine.0 did.text text fits mine.1).1 did.put
