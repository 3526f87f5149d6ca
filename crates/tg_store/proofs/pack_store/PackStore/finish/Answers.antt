use Rattle.std.proofs.Common.{◌≡◌, ◌∷◌, [], true, ℕ, List, ap, sym, subst, refl, ◌∙◌, length}
use Rattle.tg_car.specs.CarText.{HeaderText}
use Rattle.tg_cid.specs.Cid.{CidParts}
use Rattle.tg_cid.specs.Spelling.{CidBytes}
use Rattle.tg_store.specs.Finishing.{IsFinished}
use Rattle.tg_store.specs.Packs.{PackStoreState}
use Rattle.tg_store.proofs.Headers.{finished_in, header_size, header_there, root_written}
use Rattle.tg_store.proofs.pack_store.PackStore.finish.Goals as goal

pub write_at-requires : goal.write_at-requires
write_at-requires g c =
    let fresh : c.self.inside.fresh ≡ true = ap (λ (s : PackStoreState g.row.P.Denot). s.fresh) c.self.view_is ∙ c.requires.fresh in
    let size : length c.in-Ok.header ≡ 59 = header_size c.args.root c.in-Ok.ensures.0 c.in-Ok.header c.requires.hash c.in-Ok.ensures.1 c.in-Ok.ensures.2 in
    header_there (g.P.Pack.pack.content c.self.inside.pack) c.self.inside.fresh c.self.inside.places.entries c.self.inside.end (length c.as_slice.result.now) fresh
    (ap length c.as_slice.ensures ∙ size) c.self.invariant.1

pub invariant_of-self : goal.invariant_of-self
invariant_of-self g c =
    let fresh : c.self.inside.fresh ≡ true = ap (λ (s : PackStoreState g.row.P.Denot). s.fresh) c.self.view_is ∙ c.requires.fresh in
    let size : length c.in-Ok.header ≡ 59 = header_size c.args.root c.in-Ok.ensures.0 c.in-Ok.header c.requires.hash c.in-Ok.ensures.1 c.in-Ok.ensures.2 in
    let text : HeaderText ((0 ∷ c.in-Ok.ensures.0) ∷ []) c.as_slice.result.now = subst (HeaderText ((0 ∷ c.in-Ok.ensures.0) ∷ [])) (sym c.as_slice.ensures) c.in-Ok.ensures.2 in (
      c.self.invariant.0,
      finished_in (g.P.Pack.pack.content c.self.inside.pack) (g.P.Pack.pack.content c.write_at.new.self) c.as_slice.result.now (0 ∷ c.in-Ok.ensures.0) c.self.inside.fresh c.self.inside.places.entries c.self.inside.end
          (ap length c.as_slice.ensures ∙ size) text fresh c.in-Ok-write_at.ensures.did.content c.self.invariant.1,
    )

pub returns-in-Ok-write_at-clause-finished : goal.returns-in-Ok-write_at-clause-finished
returns-in-Ok-write_at-clause-finished g c =
    let fresh : c.self.inside.fresh ≡ true = ap (λ (s : PackStoreState g.row.P.Denot). s.fresh) c.self.view_is ∙ c.requires.fresh in
    let name : List ℕ = c.in-Ok.ensures.0 in
    let size : length c.in-Ok.header ≡ 59 = header_size c.args.root name c.in-Ok.header c.requires.hash c.in-Ok.ensures.1 c.in-Ok.ensures.2 in
    let text : HeaderText ((0 ∷ name) ∷ []) c.as_slice.result.now = subst (HeaderText ((0 ∷ name) ∷ [])) (sym c.as_slice.ensures) c.in-Ok.ensures.2 in
    let one : (let root : CidParts = record c.args.root { version = 1 } in root) ≡ c.args.root =
    λ i. record { version = (sym c.requires.version) i; codec = c.args.root.codec; hash = c.args.root.hash; digest = c.args.root.digest } in
    let new : PackStoreState g.row.P.Denot = record { pack = c.write_at.new.self; fresh = c.self.inside.fresh; places = c.self.inside.places.entries; end = c.self.inside.end } in
    let before : PackStoreState g.row.P.Denot = record { pack = c.self.inside.pack; fresh = c.self.inside.fresh; places = c.self.inside.places.entries; end = c.self.inside.end } in
    let finished : IsFinished g.P.Pack.pack before new c.args.root = record {
      header = c.as_slice.result.now;
      name = name;
      spelled = subst (λ (r : CidParts). CidBytes r name) one c.in-Ok.ensures.1;
      text = text;
      did = c.in-Ok-write_at.ensures.did;
      quiet = c.in-Ok-write_at.ensures.quiet;
      fresh = refl;
      places = refl;
      root_is = root_written c.car_laws.ensures (g.P.Pack.pack.content c.self.inside.pack) (g.P.Pack.pack.content c.write_at.new.self) c.as_slice.result.now (0 ∷ name) c.self.inside.fresh c.self.inside.places.entries c.self.inside.end
          (ap length c.as_slice.ensures ∙ size) text fresh c.in-Ok-write_at.ensures.did.content c.self.invariant.1;
    } in
    subst (λ (s : PackStoreState g.row.P.Denot). IsFinished g.P.Pack.pack s new c.args.root) c.self.view_is finished
