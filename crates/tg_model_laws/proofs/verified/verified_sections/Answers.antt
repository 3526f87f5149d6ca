use Rattle.std.proofs.Common.{◌∷◌, ◌++◌}
use Rattle.tg_model_laws.proofs.VerifySteps.{ends_whole, fit_other, how_then, nowhere_other, pair_had, pair_of, passes_again, progress_other, stops_nowhere, verified_beside, verified_fits, verified_gives, verified_goes, verified_misses, verified_refuses, verified_starts, verified_takes, verified_takes_alone, waits_at, wants_next}
use Rattle.tg_model_laws.proofs.verified.verified_sections.Goals as goal

pub returns : goal.returns
returns c =
    let o = c.taken_blocks.ensures in
    let b = c.beside_dags.ensures in
    let say = c.opened_texts.ensures.text in
    let meet = c.opened_texts.ensures.listing in
    let opened_from = c.partial_dags.ensures.opened in
    let followed = c.partial_dags.ensures.followed in
    record {
      start = verified_starts o b;
      up_to_next = verified_gives o b;
      taken = λ q sections given w section kind tasks known reads here v. verified_takes o b q sections given w section tasks known v kind reads here;
      alone = λ q sections given w section tasks known unread named v. verified_takes_alone o b q sections given w section tasks known v unread named;
      goes = verified_goes o b;
      fits = verified_fits o b say meet;
      misses = verified_misses o b;
      beside = verified_beside o b opened_from followed;
      refused = verified_refuses o b opened_from followed;
      fitting = λ q d front rest next out given tasks settled h v. wants_next o b q d given tasks front rest next settled v (fit_other o b q d (front ++ next ∷ rest) out h) h.list;
      in_progress = λ q d front rest next wanted given tasks settled h v. wants_next o b q d given tasks front rest next settled v (progress_other o b q d (front ++ next ∷ rest) wanted h) h.list;
      fitting_again = λ q d front rest known out given w more tasks e new within h v. passes_again o b q d given tasks front rest known w more e new within v (fit_other o b q d (front ++ rest) out h) h.list;
      in_progress_again = λ q d front rest known wanted given w more tasks e new within h v. passes_again o b q d given tasks front rest known w more e new within v (progress_other o b q d (front ++ rest) wanted h) h.list;
      fitting_ends = λ q d sections out given tasks settled h v. ends_whole o b q d given tasks say meet sections out settled v h;
      in_progress_ends = λ q d sections wanted given tasks settled h v. waits_at o b q d given tasks sections wanted settled v h;
      nowhere = λ q d front rest next miss given tasks settled right l end v. wants_next o b q d given tasks front rest next settled v (nowhere_other o b q d miss right end) l;
      nowhere_again = λ q d front rest known miss given w more tasks e new within right l end v. passes_again o b q d given tasks front rest known w more e new within v (nowhere_other o b q d miss right end) l;
      nowhere_ends = λ q d sections miss given tasks settled right l end v. stops_nowhere o b q d given tasks sections miss settled v right l end;
      how_then = how_then;
      pair_of_some = pair_of;
      pair_had = pair_had;
    }
