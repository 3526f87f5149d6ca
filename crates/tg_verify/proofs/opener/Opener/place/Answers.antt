use Rattle.std.proofs.Common.{List, ap₂, subst, sym, ℕ, ◌++◌, ◌≡◌}
use Rattle.tg_streams.specs.Streams.{into}
use Rattle.tg_verify.proofs.Puts.{put_placed}
use Rattle.tg_verify.specs.State.{OpenerState}
use Rattle.tg_verify.specs.Steps.{IsPlacedAt, PutEnds, section_with}
use Rattle.tg_verify.proofs.opener.Opener.place.Goals as goal

pub returns-clause-placed : goal.returns-clause-placed
returns-clause-placed g c at wanted =
    let said = c.in_ok-said.said in
    let bytes = said.text.bytes.now in
    let section = section_with c.args.cid.now c.args.block.now in
    let out = into g.S.Sink.sink c.args.out.now c.put_from.new.out in
    let text : c.as_slice.result.now ++ (bytes ++ c.as_slice-2.result.now) ≡ said.text.line ++ (bytes ++ said.ends) =
    ap₂ (λ (line : List ℕ) (ends : List ℕ). line ++ (bytes ++ ends)) c.as_slice.ensures c.as_slice-2.ensures in
    subst (λ (new : OpenerState). IsPlacedAt c.args.self.now at section c.args.source out new c.put_from.result) (sym c.self.view_is)
    (put_placed c.args.self.now c.prepare.new.self at section c.args.source (said.text.line ++ (bytes ++ said.ends)) out c.put_from.result
    (c.in_ok-said.ensures.placed at wanted) (subst (λ (t : List ℕ). PutEnds t out c.put_from.result) text c.put_from.ensures.put))
