use Rattle.tg_mirror_laws.proofs.Mirroring.{holds_by_hashes, mirrored_holds, mirrored_replies, mirrored_told, serves_hashed}
use Rattle.tg_mirror_laws.proofs.laws.mirrored_dags.Goals as goal

pub returns-clause-serves : goal.returns-clause-serves
returns-clause-serves c = serves_hashed c.same_replies.ensures.views c.same_replies.ensures.replies

pub returns-clause-held : goal.returns-clause-held
returns-clause-held c = holds_by_hashes

pub returns-clause-holds : goal.returns-clause-holds
returns-clause-holds c = mirrored_holds c.traversals.ensures.everything c.kept_sections.ensures.holds

pub returns-clause-replies : goal.returns-clause-replies
returns-clause-replies c =
    mirrored_replies c.against_every_peer.ensures.accepted (mirrored_holds c.traversals.ensures.everything c.kept_sections.ensures.holds)
    (serves_hashed c.same_replies.ensures.views c.same_replies.ensures.replies)

pub returns-clause-told : goal.returns-clause-told
returns-clause-told c =
    mirrored_told
    (mirrored_replies c.against_every_peer.ensures.accepted (mirrored_holds c.traversals.ensures.everything c.kept_sections.ensures.holds)
    (serves_hashed c.same_replies.ensures.views c.same_replies.ensures.replies))
