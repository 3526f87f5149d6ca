use Rattle.tg_car.proofs.Openings.{no_name, too_few, open_name, whole_name, broken_name}
use Rattle.tg_car.proofs.head.behind_size.Goals as goal

pub returns-in_default : goal.returns-in_default
returns-in_default c = λ spelling v. no_name c.text_laws.ensures c.args.size spelling c.args.name.now v c.in_default.ensures

pub returns-then-size-count : goal.returns-then-size-count
returns-then-size-count c = λ spelling v.
    too_few c.text_laws.ensures c.args.size spelling c.args.name.now c.in-Some.count v c.in-Some.ensures c.if-size-count.true

pub returns-then-name-count : goal.returns-then-name-count
returns-then-name-count c = λ spelling v.
    open_name c.args.size spelling c.args.name.now c.in-Some.count v c.in-Some.ensures c.if-size-count.false c.if-name-count.true

pub returns-in-Ok : goal.returns-in-Ok
returns-in-Ok c = λ spelling v.
    whole_name c.args.size spelling c.args.name.now c.in-Some.count c.in-Ok.cid v c.in-Some.ensures c.if-size-count.false c.if-name-count.false
    c.in-Ok.ensures.found

pub returns-in-Err : goal.returns-in-Err
returns-in-Err c = λ spelling v.
    broken_name c.args.size spelling c.args.name.now c.in-Some.count c.in-Some.ensures c.if-name-count.false
    (λ cid h. let e = c.in-Err.ensures.only cid h in absurd cc)
