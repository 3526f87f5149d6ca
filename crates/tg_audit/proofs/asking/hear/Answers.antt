use Rattle.std.proofs.Common.{Err, List, Ok, Some, [], ap, subst, ℕ, ◌++◌, ◌∙◌, ◌∷◌, ◌≡◌}
use Rattle.std.proofs.lemmas.Result.{err_from_is_err_and}
use Rattle.tg_audit.proofs.Addrs.{audit_addr_is}
use Rattle.tg_audit.proofs.Asked.{answered, unheard}
use Rattle.tg_audit.specs.Asking.{audit_addr}
use Rattle.tg_audit_texts.specs.Hashing.{hashing_sink}
use Rattle.tg_dials.specs.Dials.{at_dial}
use Rattle.tg_dials.specs.Memory.{DialState, mem_dial}
use Rattle.tg_fetch.specs.Calls.{FetchEnds}
use Rattle.tg_model.specs.LimitNumbers.{LimitNumbers}
use Rattle.tg_streams.specs.Streams.{into}
use Rattle.tg_audit.proofs.asking.hear.Goals as goal

pub returns-in_err-fetch : goal.returns-in_err-fetch
returns-in_err-fetch c =
    let p = err_from_is_err_and c.from_residual-in_err-fetch.result c.from_residual-in_err-fetch.ensures.1 in
    let fault = c.in_err-fetch.field-0.0 in
    let dial = at_dial mem_dial c.new-dial.result c.fetch.new.dial in
    let out = into hashing_sink c.new-hashing.result c.fetch.new.out in
    let peers : c.push.new.self ≡ c.args.reply ∷ [] =
    c.in_ok-push.ensures.ok ∙ ap (λ (l : List (List ℕ)). l ++ c.args.reply ∷ []) c.new-coming.ensures in
    let coming : dial.coming_old ≡ Some (c.args.reply ∷ []) = ap (λ (d : DialState). Some d.replies) c.new-dial.ensures ∙ ap Some peers in
    rw (p.1, p.2)
    (unheard c.args.query.now c.args.reply dial c.new-hashing.result c.fetch.new.out coming fault c.in_err-fetch.ensures.cause
    (subst (λ (l : LimitNumbers). FetchEnds c.args.query.now l audit_addr dial out (Err fault)) c.requires c.in_err-fetch.ensures.ends))

pub returns : goal.returns
returns c =
    let dial = at_dial mem_dial c.new-dial.result c.fetch.new.dial in
    let out = into hashing_sink c.new-hashing.result c.fetch.new.out in
    let peers : c.push.new.self ≡ c.args.reply ∷ [] =
    c.in_ok-push.ensures.ok ∙ ap (λ (l : List (List ℕ)). l ++ c.args.reply ∷ []) c.new-coming.ensures in
    let coming : dial.coming_old ≡ Some (c.args.reply ∷ []) = ap (λ (d : DialState). Some d.replies) c.new-dial.ensures ∙ ap Some peers in
    answered c.args.query.now c.args.reply dial c.new-hashing.result c.fetch.new.out coming
    (subst (λ (l : LimitNumbers). FetchEnds c.args.query.now l audit_addr dial out (Ok tt)) c.requires c.in_ok-fetch.ensures.ends)
    c.new-hashing.ensures c.hashed.result c.hashed.ensures

pub fetch-requires : goal.fetch-requires
fetch-requires c = audit_addr_is
