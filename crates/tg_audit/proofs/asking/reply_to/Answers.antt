use Rattle.std.proofs.Common.{List, Some, [], ap, length, refl, subst, sym, ℕ, ◌++◌, ◌<◌, ◌∙◌, ◌∷◌, ◌≡◌}
use Rattle.tg_audit.proofs.Addrs.{audit_addr_is}
use Rattle.tg_audit.proofs.Asked.{past, told_reply}
use Rattle.tg_audit.specs.Asking.{audit_addr}
use Rattle.tg_doors.specs.Doors.{at_door}
use Rattle.tg_doors.specs.Memory.{DoorState, mem_door}
use Rattle.tg_links.specs.Memory.{mem_link}
use Rattle.tg_model.specs.LimitNumbers.{LimitNumbers, number_of, standard}
use Rattle.tg_model.specs.declared.limits.LimitKind.TheVariants as kinds
use Rattle.tg_query.specs.Requests.{request_text}
use Rattle.tg_serve.specs.Serving.{LinksTell, ServesDoor}
use Rattle.tg_audit.proofs.asking.reply_to.Goals as goal

pub print_request-requires : goal.print_request-requires
print_request-requires g c = audit_addr_is

pub returns-then-happened-clause-told : goal.returns-then-happened-clause-told
returns-then-happened-clause-told g c =
    let blocks = g.B.Blocks.blocks in
    let q = c.args.query.now in
    let before = c.new-door.result in
    let door = at_door mem_door before c.serve_door-happened.new.door in
    let request : c.push.new.self ≡ request_text q audit_addr ∷ [] =
    c.in_ok-push.ensures.ok ∙ ap (λ (l : List (List ℕ)). l ++ c.in_ok-print_request.field-0 ∷ []) c.new-coming.ensures
    ∙ ap (λ (text : List ℕ). text ∷ []) c.in_ok-print_request.ensures in
    let coming : Some before.coming ≡ Some (request_text q audit_addr ∷ []) = ap (λ (d : DoorState). Some d.coming) c.new-door.ensures ∙ ap Some request in
    let so = subst (λ (most : ℕ). ServesDoor (blocks.stored c.args.blocks.now) most 1 (LinksTell mem_link) (blocks.faults c.args.blocks.now)
    (blocks.faults c.serve_door-happened.new.blocks) door c.serve_door-happened.result) (ap (λ (l : LimitNumbers). l.received) c.requires) c.serve_door-happened.ensures.serves in
    let number : c.number-number.result ≡ standard.received = c.number-number.ensures.number ∙ ap (number_of kinds.Received) c.requires in (
      number,
      subst (λ (n : ℕ). n < length (request_text q audit_addr)) (sym number)
          (past c.sent_joins.ensures.stays (blocks.stored c.args.blocks.now) q (LinksTell mem_link) (blocks.faults c.args.blocks.now)
          (blocks.faults c.serve_door-happened.new.blocks) door c.serve_door-happened.result coming so c.if-happened.true),
    )

pub returns-clause-told : goal.returns-clause-told
returns-clause-told g c =
    let blocks = g.B.Blocks.blocks in
    let q = c.args.query.now in
    let before = c.new-door.result in
    let door = at_door mem_door before c.serve_door-happened.new.door in
    let request : c.push.new.self ≡ request_text q audit_addr ∷ [] =
    c.in_ok-push.ensures.ok ∙ ap (λ (l : List (List ℕ)). l ++ c.in_ok-print_request.field-0 ∷ []) c.new-coming.ensures
    ∙ ap (λ (text : List ℕ). text ∷ []) c.in_ok-print_request.ensures in
    let coming : Some before.coming ≡ Some (request_text q audit_addr ∷ []) = ap (λ (d : DoorState). Some d.coming) c.new-door.ensures ∙ ap Some request in
    let so = subst (λ (most : ℕ). ServesDoor (blocks.stored c.args.blocks.now) most 1 (LinksTell mem_link) (blocks.faults c.args.blocks.now)
    (blocks.faults c.serve_door-happened.new.blocks) door c.serve_door-happened.result) (ap (λ (l : LimitNumbers). l.received) c.requires) c.serve_door-happened.ensures.serves in
    told_reply c.sent_joins.ensures.stays (blocks.stored c.args.blocks.now) q (LinksTell mem_link) (blocks.faults c.args.blocks.now)
    (blocks.faults c.serve_door-happened.new.blocks) door c.serve_door-happened.result coming c.if-happened-2.false c.if-happened-3.false c.if-happened-4.false c.if-happened.false
    (λ link. (refl, refl)) (ap (λ (d : DoorState). d.served) c.new-door.ensures) so c.last_said.result c.last_said.ensures
