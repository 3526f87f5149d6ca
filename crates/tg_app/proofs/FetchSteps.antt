-- `fetch` ends as its call does.
use Rattle.std.proofs.Common.{◌≡◌, ℕ, inl, inr, List, Option, Some, sym, subst}
use Rattle.std.specs.Prelude.{Result, ⊤}
use Rattle.tg_app.specs.Fetches.{FetchAnswers, IsAbsentReply, IsFetchEnd, IsGoodReply}
use Rattle.tg_commands.specs.declared.fault.CommandFault.{CommandFault}
use Rattle.tg_dials.specs.Dials.{Dialling}
use Rattle.tg_heard.specs.Exchanges.{HasOneBlockEach}
use Rattle.tg_fetch.specs.Calls.{FetchEnds}
use Rattle.tg_fetch.specs.Faults.{QuietUnlessSink}
use Rattle.tg_fetch.specs.Laws.{IsAcceptedElse, IsNowhereElse, IsNowhereIn, IsOwnNowhere, TellsAbsence, TellsCarried}
use Rattle.tg_fetch.specs.Received.{SoundCall}
use Rattle.tg_fetch.specs.declared.fault.FetchFault.{FetchFault}
use Rattle.tg_model.specs.Answer.{answer}
use Rattle.tg_model.specs.Dag.{Dag, Section, root_cid}
use Rattle.tg_model.specs.Fits.{Fits}
use Rattle.tg_model.specs.LimitNumbers.{LimitNumbers, standard}
use Rattle.tg_model.specs.Queries.{QueryParts}
use Rattle.tg_model.specs.Sound.{IsSound}
use Rattle.tg_model.specs.Traversal.{block_list}
use Rattle.tg_model_laws.specs.Tasks.{Miss}
use Rattle.tg_streams.specs.Streams.{Output}
use Rattle.tg_verify.specs.Absences.{path_query}
use Rattle.tg_verify.specs.Laws.{IsWithinLimits}

module _ (q : QueryParts) (addr : List ℕ) (limits : LimitNumbers) (dial : Dialling) (out : Output) (result : Result ⊤ FetchFault) (are : limits ≡ standard)
    (ends : FetchEnds q limits addr dial out result) (cause : QuietUnlessSink out result) (sound : SoundCall q limits dial out result)
    (fitting : (d : Dag) (sections : List Section) (text : List ℕ) → Fits d q sections text → IsWithinLimits q limits d → TellsCarried q limits dial sections
    → IsAcceptedElse text out result)
    (own : (d : Dag) (text : List ℕ) → IsSound d → root_cid d ≡ q.root → answer q d ≡ Some text → HasOneBlockEach d → IsWithinLimits q limits d
    → TellsCarried q limits dial (block_list q d) → IsAcceptedElse text out result)
    (nowhere : (d : Dag) (miss : Miss) → IsNowhereIn q limits d miss → TellsAbsence q limits dial (block_list (path_query q) d) → IsNowhereElse miss out result)
    (own_nowhere : (d : Dag) (miss : Miss) → IsOwnNowhere q limits d miss → TellsAbsence q limits dial (block_list q d) → IsNowhereElse miss out result) where
  -- what is said of the standard limits is said of these
  at_standard : (P : LimitNumbers → Type 0) → P standard → P limits
  at_standard P h = subst P (sym are) h

  within : (d : Dag) → IsWithinLimits q standard d → IsWithinLimits q limits d
  within d h = at_standard (λ l. IsWithinLimits q l d) h

  tells : (sections : List Section) → TellsCarried q standard dial sections → TellsCarried q limits dial sections
  tells sections h = at_standard (λ l. TellsCarried q l dial sections) h

  pub good_is_taken : (text : List ℕ) → IsGoodReply q dial text → IsAcceptedElse text out result
  good_is_taken text (inl o) = own o.d text o.sound o.root o.answers o.one_each (within o.d o.within) (tells (block_list q o.d) o.tells)
  good_is_taken text (inr f) = fitting f.d f.sections text f.fits (within f.d f.within) (tells f.sections f.tells)

  pub absent_is_told : (miss : Miss) → IsAbsentReply q dial miss → IsNowhereElse miss out result
  absent_is_told miss (inl o) = own_nowhere o.d miss (at_standard (λ l. IsOwnNowhere q l o.d miss) o.nowhere) (at_standard (λ l. TellsAbsence q l dial (block_list q o.d)) o.tells)
  absent_is_told miss (inr s) = nowhere s.d miss (at_standard (λ l. IsNowhereIn q l s.d miss) s.nowhere) (at_standard (λ l. TellsAbsence q l dial (block_list (path_query q) s.d)) s.tells)

  unfoldable pub answers : (end : Option CommandFault) → IsFetchEnd result end → FetchAnswers (record { addr = addr; query = q }) dial out end
  answers end is = record {
    result = result;
    end_is = is;
    ends = subst (λ (l : LimitNumbers). FetchEnds q l addr dial out result) are ends;
    cause = cause;
    sound = subst (λ (l : LimitNumbers). SoundCall q l dial out result) are sound;
    accepts = good_is_taken;
    absent = absent_is_told;
  }
