use Rattle.std.proofs.Common.{◌≤◌, All, List, length, subst}
use Rattle.tg_model.specs.Dag.{Section}
use Rattle.tg_model.specs.Fits.{Fits, IsInProgress}
use Rattle.tg_model.specs.Traversal.{block_list}
use Rattle.tg_streams.specs.Streams.{into, through}
use Rattle.tg_client.specs.Telling.{telling}
use Rattle.tg_client.proofs.Accepting.{accepts, cuts, fitting_done, fitting_through, progress_by, progress_through, progress_waits}
use Rattle.tg_client.proofs.Headless.{ends_early}
use Rattle.tg_client.proofs.Surplus.{goes_over}
use Rattle.tg_client.proofs.Told.{blocks_small}
use Rattle.tg_client.proofs.cars.verify_car_telling.Goals as goal

pub returns-clause-verifies : goal.returns-clause-verifies
returns-clause-verifies g c = c.hear.ensures.verifies.verifies

pub returns-clause-own : goal.returns-clause-own
returns-clause-own g c d bytes text told sound root is once is_car within few =
    let q = c.args.query.now in
    let limits = c.args.limits in
    let all : List Section = block_list q d in
    let (s, fits) = c.own_sections.ensures q d text sound root once is in
    accepts c.car_laws.ensures c.received_sections.ensures q limits (through g.I.Source.source c.args.input.now c.hear.new.input) (into (telling g.S.Sink.sink g.T.TellTerminal.wrote) c.args.out.now c.hear.new.out) bytes all
    (c.received_sections.ensures.whole limits.block bytes all is_car (blocks_small q limits d within)) is_car few
    (fitting_through c.verified_sections.ensures q s all text fits)
    (λ front rest written fault e refused. c.own_sections_taken.ensures.taken q limits d front rest written text fault sound root once is e within refused)
    (fitting_done c.verified_sections.ensures q s all text fits) told c.hear.result c.hear.ensures.verifies.verifies

pub returns-clause-fitting : goal.returns-clause-fitting
returns-clause-fitting g c d sections bytes text told fits is_car within few =
    let q = c.args.query.now in
    let limits = c.args.limits in
    let small = subst (λ (l : List Section). All (λ section. length section.block ≤ limits.block) l) fits.list (blocks_small q limits d within) in
    accepts c.car_laws.ensures c.received_sections.ensures q limits (through g.I.Source.source c.args.input.now c.hear.new.input) (into (telling g.S.Sink.sink g.T.TellTerminal.wrote) c.args.out.now c.hear.new.out) bytes sections
    (c.received_sections.ensures.whole limits.block bytes sections is_car small) is_car few
    (fitting_through c.verified_sections.ensures q d sections text fits)
    (λ front rest written fault e refused. c.verified_answers.ensures.fit_taken q limits d front rest written text fault (subst (λ (l : List Section). Fits d q l text) e fits) within refused)
    (fitting_done c.verified_sections.ensures q d sections text fits) told c.hear.result c.hear.ensures.verifies.verifies

pub returns-clause-headless : goal.returns-clause-headless
returns-clause-headless g c bytes told on few =
    ends_early c.car_laws.ensures c.received_sections.ensures c.args.query.now c.args.limits (through g.I.Source.source c.args.input.now c.hear.new.input) (into (telling g.S.Sink.sink g.T.TellTerminal.wrote) c.args.out.now c.hear.new.out)
    bytes told on few c.hear.result c.hear.ensures.verifies

pub returns-clause-cut : goal.returns-clause-cut
returns-clause-cut g c d sections bytes wanted told progress here header within few =
    let q = c.args.query.now in
    let limits = c.args.limits in
    cuts c.car_laws.ensures c.received_sections.ensures q limits (through g.I.Source.source c.args.input.now c.hear.new.input) (into (telling g.S.Sink.sink g.T.TellTerminal.wrote) c.args.out.now c.hear.new.out) bytes sections here header few
    (progress_by c.verified_sections.ensures q d sections wanted progress)
    (λ front rest written fault e refused. c.verified_answers.ensures.progress_taken q limits d front rest written wanted fault (subst (λ (l : List Section). IsInProgress d q l wanted) e progress) within refused)
    (progress_through c.verified_sections.ensures q d sections wanted progress) wanted.cid
    (progress_waits c.verified_sections.ensures q d sections wanted progress) told c.hear.result c.hear.ensures.verifies.verifies

pub returns-clause-surplus : goal.returns-clause-surplus
returns-clause-surplus g c d sections car more text told fits is_car some within short =
    let q = c.args.query.now in
    let limits = c.args.limits in
    let small = subst (λ (l : List Section). All (λ section. length section.block ≤ limits.block) l) fits.list (blocks_small q limits d within) in
    goes_over c.verified_answers.ensures c.verified_sections.ensures c.front_sections.ensures.fits c.front_sections.ensures.in_progress q d sections text
    (λ some a b x w f p. c.one_fit.ensures.either q some a b x w f p) fits c.car_laws.ensures c.received_sections.ensures limits within
    (through g.I.Source.source c.args.input.now c.hear.new.input) (into (telling g.S.Sink.sink g.T.TellTerminal.wrote) c.args.out.now c.hear.new.out) car more is_car (c.received_sections.ensures.whole limits.block car sections is_car small) some short told
    c.hear.result c.hear.ensures.verifies
