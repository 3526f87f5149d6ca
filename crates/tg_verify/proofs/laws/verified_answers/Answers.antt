use Rattle.tg_verify.proofs.Endings.{fit_ends, progress_waits}
use Rattle.tg_verify.proofs.Going.{going_through, going_up_to}
use Rattle.tg_verify.proofs.Refused.{refused_sound}
use Rattle.tg_verify.proofs.Shown.{PeerLaws, answer_front, nowhere_leads, through_fits, through_sound, up_to_progress, up_to_sound}
use Rattle.tg_verify.proofs.Fitting.{fit_taken, nowhere_taken, progress_taken}
use Rattle.tg_verify.proofs.laws.verified_answers.Goals as goal

pub returns : goal.returns
returns c =
    let v = c.verified_sections.ensures in
    let b = c.beside_dags.ensures in
    let computes = c.readings.ensures.computed in
    let p : PeerLaws = record {
      accepted = c.against_every_peer.ensures.accepted;
      written = c.against_every_peer.ensures.written;
      meanwhile = c.against_every_peer.ensures.meanwhile;
      absent = c.against_every_peer.ensures.absent;
      not_folder = c.against_every_peer.ensures.not_folder;
    } in
    record {
      up_to = λ q limits sections written at h. up_to_progress v q sections written at h;
      through = λ q limits sections written h. through_fits v q sections written h;
      nowhere = λ q limits sections written miss h. nowhere_leads v q sections written miss h;
      sound_up_to = λ q limits d sections written at sound root h. up_to_sound v p q d sound root sections written at h;
      sound_through = λ q limits d sections written sound root h. through_sound v p q d sound root sections written h;
      sound_refused = λ q limits d sections written fault sound root h. refused_sound v p b computes q limits d sound root sections written fault h;
      fit_taken = fit_taken v b computes;
      progress_taken = progress_taken v b computes;
      nowhere_taken = nowhere_taken v b computes;
      fit_through = λ state d sections written text fits h. fit_ends v state d sections written h text fits;
      progress_up_to = λ state d sections written wanted progress h. progress_waits v state d sections written h wanted progress;
      going_up_to = going_up_to;
      going_through = going_through;
      answer_front = answer_front;
    }
