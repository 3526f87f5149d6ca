use Rattle.std.proofs.Common.{◌≡◌, Option, Some, None, Ok, [], ◌∷◌, ◌++◌, sym, ap, ◌∙◌}
use Rattle.std.specs.Result.{result_ok}
use Rattle.tg_cid.specs.Cid.{CidParts}
use Rattle.tg_dagpb.specs.Cursor.{link_of}
use Rattle.tg_model.proofs.CidsAhead.{first_cid, no_cids}
use Rattle.tg_model.proofs.links.next_link.Goals as goal

pub returns-in_err-link-clause-next : goal.returns-in_err-link-clause-next
returns-in_err-link-clause-next c = λ links cids h.
    let none = c.in_err-link.ensures.next h.ahead.behind links h.ahead.between in
    rw c.from_residual.ensures (none, no_cids links cids h.cids_are none)

pub returns-in_err-cid-clause-next : goal.returns-in_err-cid-clause-next
returns-in_err-cid-clause-next c = λ links cids h.
    let next = c.in_ok-link.ensures.next h.ahead.behind links h.ahead.between in
    let first = first_cid links (link_of c.in_ok-link.link) next.0 cids next.1 h.cids_are in
    let found : c.from_bytes.result ≡ Ok first.cid = c.from_bytes.ensures.only first.cid first.first in
    let none : ◌≡◌ {A = Option CidParts} (Some first.cid) None = sym (ap result_ok found) ∙ sym c.ok.ensures.value ∙ c.in_err-cid.was in
    absurd (cc)

pub returns-clause-next : goal.returns-clause-next
returns-clause-next c = λ links cids h.
    let next = c.in_ok-link.ensures.next h.ahead.behind links h.ahead.between in
    let first = first_cid links (link_of c.in_ok-link.link) next.0 cids next.1 h.cids_are in
    let found : c.from_bytes.result ≡ Ok first.cid = c.from_bytes.ensures.only first.cid first.first in
    let is : ◌≡◌ {A = Option CidParts} (Some first.cid) (Some c.in_ok-cid.cid) = sym (ap result_ok found) ∙ sym c.ok.ensures.value ∙ c.in_ok-cid.was in
    let same : first.cid ≡ c.in_ok-cid.cid = cc is in
    record {
      more_links = next.0;
      more_cids = first.more;
      links_are = next.1;
      cids_are = first.cids_are ∙ ap (λ (cid : CidParts). cid ∷ first.more) same;
      ahead = record { ahead = record { behind = h.ahead.behind ++ link_of c.in_ok-link.link ∷ []; between = next.2 }; cids_are = first.others };
    }
