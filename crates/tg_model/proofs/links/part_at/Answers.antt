use Rattle.std.proofs.Common.{◌≡◌, suc, ℕ, subst, List, [], ◌∷◌, ◌++◌, length, refl, ap, ap₂, ◌∙◌, arith}
use Rattle.tg_cid.specs.Cid.{CidParts}
use Rattle.tg_dagpb.specs.declared.Link.{Link}
use Rattle.tg_model.proofs.PlacedAnswers.{no_parts}
use Rattle.tg_model.specs.Placed.{AreCidsAhead}
use Rattle.tg_model.specs.Reading.{parts_of}
use Rattle.tg_model.proofs.links.part_at.Goals as goal

pub next_link-requires : goal.next_link-requires
next_link-requires c = let h = c.requires.1 in (h.links, h.cids, h.links_ahead)

pub size_at-requires : goal.size_at-requires
size_at-requires c = let h = c.requires.1 in (h.sizes_ahead.behind, h.sizes, h.sizes_ahead.between)

pub returns-in_err-size-clause-next : goal.returns-in_err-size-clause-next
returns-in_err-size-clause-next c = λ parts h.
    let none = c.in_err-size.ensures.next h.sizes_ahead.behind h.sizes h.sizes_ahead.between in
    rw c.from_residual.ensures (h.parts_are ∙ ap (λ (sizes : List ℕ). parts_of h.cids sizes) none ∙ no_parts h.cids)

pub returns-in_default-clause-next : goal.returns-in_default-clause-next
returns-in_default-clause-next c = λ parts h.
    let none = c.in_default.ensures.next h.links h.cids h.links_ahead in
    h.parts_are ∙ ap (λ (cids : List CidParts). parts_of cids h.sizes) none.1

pub returns-clause-next : goal.returns-clause-next
returns-clause-next c = λ parts h.
    let next = c.in-Some.ensures.next h.links h.cids h.links_ahead in
    let size = c.in_ok-size.ensures.next h.sizes_ahead.behind h.sizes h.sizes_ahead.between in
    let fewer : length h.links ≡ suc (length next.more_links) = ap (λ (links : List Link). length links) next.links_are in
    let smaller : length h.sizes ≡ suc (length size.0) = ap (λ (sizes : List ℕ). length sizes) size.1 in (
      parts_of next.more_cids size.0,
      h.parts_are ∙ ap₂ parts_of next.cids_are size.1 ∙ ap (λ (cid : CidParts). record { cid = cid; size = c.in_ok-size.size } ∷ parts_of next.more_cids size.0) (cc),
      record {
        links = next.more_links;
        cids = next.more_cids;
        sizes = size.0;
        links_ahead = subst (λ (at : ℕ). AreCidsAhead c.args.block.now at next.more_links next.more_cids) (cc) next.ahead;
        inside = h.inside;
        sizes_ahead = record { behind = h.sizes_ahead.behind ++ c.in_ok-size.size ∷ []; between = size.2 };
        as_many = omega (arith, h.as_many);
        parts_are = refl;
      },
    )

pub returns-clause-cursor : goal.returns-clause-cursor
returns-clause-cursor c = let next = returns-clause-next c c.requires.0 c.requires.1 in (next.0, next.2)
