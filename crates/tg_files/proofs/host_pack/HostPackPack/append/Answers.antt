use Rattle.std.proofs.Common.{◌≡◌, ◌∙◌, refl, ap}
use Rattle.std.proofs.lemmas.Result.{on_ok_weaker}
use Rattle.tg_files.proofs.Counted.{on_ok_all, rose_counted}
use Rattle.tg_files.proofs.host_pack.HostPackPack.append.Goals as goal
use Rattle.tg_files.proofs.host_pack.HostPackPack.append.Goals.{in-Some, in-Some-2, in-None}

pub returns-clause-quiet : goal.returns-clause-quiet
returns-clause-quiet g c =
    let kept : c.match-self.self.failed ≡ c.args.self.now.failed = elim c.match-self.branch [ in-Some w ↦ ap (λ p. p.failed) w.self-is | in-Some-2 w ↦ ap (λ p. p.failed) w.self-is | in-None w ↦ ap (λ p. p.failed) w.self-is ] in
    on_ok_weaker c.counted.result (λ same. same ∙ kept) c.counted.ensures.quiet

pub returns-clause-err_rose : goal.returns-clause-err_rose
returns-clause-err_rose g c =
    let kept : c.match-self.self.failed ≡ c.args.self.now.failed = elim c.match-self.branch [ in-Some w ↦ ap (λ p. p.failed) w.self-is | in-Some-2 w ↦ ap (λ p. p.failed) w.self-is | in-None w ↦ ap (λ p. p.failed) w.self-is ] in
    rose_counted _ c.match-self.self.failed c.counted.result kept c.counted.ensures.err_rose c.counted.ensures.err_counted

pub returns-clause-did : goal.returns-clause-did
returns-clause-did g c =
    let kept : c.match-self.self.place ≡ c.args.self.now.place = elim c.match-self.branch [ in-Some w ↦ ap (λ p. p.place) w.self-is | in-Some-2 w ↦ ap (λ p. p.place) w.self-is | in-None w ↦ ap (λ p. p.place) w.self-is ] in
    let place : c.counted.new.self.place.at ≡ c.args.self.now.place.at = ap (λ p. p.at) (c.counted.ensures.place ∙ kept) in
    on_ok_all c.counted.result (record { moved = place; content = refl; place = place })
