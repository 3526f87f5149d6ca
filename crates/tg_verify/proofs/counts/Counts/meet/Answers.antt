use Rattle.std.proofs.Common.{◌≡◌, ◌+◌, []}
use Rattle.std.proofs.Common.{ℕ}
use Rattle.tg_verify.specs.Counting.{met_above}
use Rattle.tg_verify.specs.State.{told}
use Rattle.std.proofs.Common.{refl, ap, sym, ◌∙◌}
use Rattle.tg_verify.specs.declared.counts.Counts.{Counts}
use Rattle.std.specs.Prelude.{max}
use Rattle.tg_verify.specs.Counting.{met_open}
use Rattle.tg_verify.proofs.CountedEntries.{above_low, has_met}
use Rattle.tg_verify.proofs.counts.Counts.meet.Goals as goal

pub returns-clause-met : goal.returns-clause-met
returns-clause-met c m before is named h =
    let same : record c.take_out-counted.new.self { directories = c.args.self.now.directories } ≡ c.args.self.now =
    ap (λ (counts : Counts). record counts { directories = c.args.self.now.directories }) c.take_out-counted.ensures.others
    ∙ ap (λ (counts : Counts). record counts { directories = c.args.self.now.directories }) c.leave.ensures.others in
    has_met c.args.directory c.args.self.now _ c.take_out-counted.new.self.directories.items c.take_out-counted.result
    (record { path = c.take_out-counted.result.path; entries = c.saturating_add.result; names = c.saturating_add-2.result }) m before is h
    (c.take_out-counted.ensures.taken (met_above c.args.directory (met_open [] before)) (c.leave.ensures.met (met_open [] before) h.directories)
    (above_low c.args.directory (met_open [] before)))
    refl c.saturating_add.ensures
    (c.saturating_add-2.ensures ∙ ap (λ (n : ℕ). told (c.take_out-counted.result.names + n)) (sym named)) c.in_ok-push.ensures.items
    (c.max-self.ensures ∙ ap (λ (counts : Counts). max counts.entries c.saturating_add.result) same)
    (c.max-self-2.ensures ∙ ap (λ (counts : Counts). max counts.names c.saturating_add-2.result) same)
