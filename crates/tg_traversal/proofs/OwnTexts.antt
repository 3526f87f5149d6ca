-- What the block at the wanted place says itself: its text there, and its sizes.
use Rattle.tg_traversal.specs.declared.position.Ask.TheVariants as asks
use Rattle.tg_model.specs.declared.placed.PlacedKind.TheVariants as placed
use Rattle.std.proofs.Common.{◌≡◌, ◌∙◌, List, None, Option, Some, [], ap, inl, inr, length, refl, subst, sym, ℕ}
use Rattle.std.specs.Option.{option_or}
use Rattle.tg_traversal.proofs.Opened.{on_path_below}
use Rattle.tg_traversal.proofs.StepsLeft.{segment_there}
use Rattle.tg_traversal.specs.Left.{IsOnPath}
use Rattle.tg_traversal.specs.PlaceTexts.{IsDiffering, IsOther, IsSame, IsSizeFault, content_size, part_size, standing_at, told_size}
use Rattle.tg_traversal.specs.Places.{standing_of, want_of}
use Rattle.tg_traversal.specs.declared.position.Ask.{Ask}
use Rattle.tg_traversal.specs.declared.position.Position.{Position}
use Rattle.tg_traversal.specs.declared.text.SizeFault.{SizeFault}
use Rattle.tg_model.specs.ByteRanges.{high_of, low_of}
use Rattle.tg_model.specs.Dag.{Section, total_of}
use Rattle.tg_model.specs.Placed.{StandsForKind}
use Rattle.tg_model.specs.Queries.{QueryParts, SpanParts}
use Rattle.tg_model.specs.Sound.{IsOfSize, TellsSize, child, part, position_fault, top}
use Rattle.tg_model.specs.Sound.{Position as Standing}
use Rattle.tg_model.specs.Texts.{file_line}
use Rattle.tg_model.specs.Traversal.{between, entity_reach, own_text, record_line, text_before}
use Rattle.tg_model.specs.declared.kinds.Kind.{Kind}
use Rattle.tg_model.specs.declared.kinds.Kind.TheVariants.{Basic, File, Raw, Shard, Symlink}
use Rattle.tg_model.specs.declared.placed.FilePlaces.{FilePlaces}
use Rattle.tg_model_laws.specs.Tasks.{Want, fault_at, node_want, position_of, segment_want, terminal_want, text_at}

-- ---- the size of a file's content

pub file_total : (section : Section) (kind : Kind) (block : List ℕ) (places : FilePlaces) → StandsForKind block (placed.File places) kind
    → Some places.total ≡ content_size section kind
file_total section Raw block places h = absurd h
file_total section (File inline filesize parts) block places h = ap Some (h.total_is section)
file_total section (Basic entries) block places h = absurd h
file_total section (Shard slots) block places h = absurd h
file_total section (Symlink target) block places h = absurd h

pub file_record : (standing : Standing) (section : Section) (kind : Kind) (block path : List ℕ) (places : FilePlaces) → StandsForKind block (placed.File places) kind
    → file_line places.total path ≡ record_line standing section kind path
file_record standing section Raw block path places h = absurd h
file_record standing section (File inline filesize parts) block path places h = ap (λ size. file_line size path) (h.total_is section)
file_record standing section (Basic entries) block path places h = absurd h
file_record standing section (Shard slots) block path places h = absurd h
file_record standing section (Symlink target) block path places h = absurd h

pub content_total : (section : Section) (kind : Kind) (size : ℕ) → content_size section kind ≡ Some size → size ≡ total_of section kind
content_total section Raw size h = cc
content_total section (File inline filesize parts) size h = cc
content_total section (Basic entries) size h = absurd (cc)
content_total section (Shard slots) size h = absurd (cc)
content_total section (Symlink target) size h = absurd (cc)

-- ---- the bytes of a terminal that are asked for

range_of : (span : SpanParts) (section : Section) (kind : Kind) (size : ℕ) → content_size section kind ≡ Some size
    → between (low_of span.from size) (high_of span.to size) (own_text section kind) ≡ text_before (entity_reach (Some span) section kind) top section kind
range_of span section Raw size h =
    ap (λ n. between (low_of span.from n) (high_of span.to n) (own_text section Raw)) (content_total section Raw size h)
range_of span section (File inline filesize parts) size h =
    ap (λ n. between (low_of span.from n) (high_of span.to n) inline) (content_total section (File inline filesize parts) size h)
range_of span section (Basic entries) size h = absurd (cc)
range_of span section (Shard slots) size h = absurd (cc)
range_of span section (Symlink target) size h = absurd (cc)

pub range_asked : (span : SpanParts) (section : Section) (kind : Kind) (size low high : ℕ) (bytes : List ℕ) → content_size section kind ≡ Some size
    → low ≡ low_of span.from size → high ≡ high_of span.to size → bytes ≡ own_text section kind
    → between low high bytes ≡ text_before (entity_reach (Some span) section kind) top section kind
range_asked span section kind size low high bytes h low_is high_is bytes_are =
    ap (λ n. between n high bytes) low_is ∙ (ap (λ n. between (low_of span.from size) n bytes) high_is
    ∙ (ap (λ (own : List ℕ). between (low_of span.from size) (high_of span.to size) own) bytes_are ∙ range_of span section kind size h))

pub no_range_asked : (section : Section) (kind : Kind) → own_text section kind ≡ text_before (entity_reach None section kind) top section kind
no_range_asked section Raw = refl
no_range_asked section (File inline filesize parts) = refl
no_range_asked section (Basic entries) = refl
no_range_asked section (Shard slots) = refl
no_range_asked section (Symlink target) = refl

pub no_content_asked : (span : Option SpanParts) (section : Section) (kind : Kind) → content_size section kind ≡ None
    → own_text section kind ≡ text_before (entity_reach span section kind) top section kind
no_content_asked span section Raw h = absurd (cc)
no_content_asked span section (File inline filesize parts) h = absurd (cc)
no_content_asked span section (Basic entries) h = refl
no_content_asked span section (Shard slots) h = refl
no_content_asked span section (Symlink target) h = refl

-- ---- at the wanted place

pub segment_text : (q : QueryParts) (i : ℕ) (position : Position) (depth : ℕ) (section : Section) (kind : Kind) → IsOnPath (asks.Segment i position) (length q.path)
    → text_at q (want_of q.path (asks.Segment i position) depth) section kind ≡ []
segment_text q i position depth section kind h =
    ap (λ (w : Want). text_at q w section kind) (segment_there i (standing_of position) q.path depth _ [] (on_path_below i position (length q.path) h) refl)

pub standing_there : (path : List (List ℕ)) (ask : Ask) (depth : ℕ) → IsOnPath ask (length path) → position_of (want_of path ask depth) ≡ standing_at ask
standing_there path (asks.Segment i position) depth h = ap position_of (segment_there i (standing_of position) path depth _ [] (on_path_below i position (length path) h) refl)
standing_there path asks.Terminal depth h = refl
standing_there path (asks.Node reach position) depth h = refl

-- ---- sizes

same_part : (standing : Standing) (size : ℕ) → IsSame (part_size standing) size → IsOfSize standing size
same_part top size h = tt
same_part (part declared) size h = sym h
same_part (child above) size h = tt

same_told : (kind : Kind) (size : ℕ) → IsSame (told_size kind) size → TellsSize kind size
same_told Raw size h = tt
same_told (File inline None parts) size h = tt
same_told (File inline (Some told) parts) size h = h
same_told (Basic entries) size h = tt
same_told (Shard slots) size h = tt
same_told (Symlink target) size h = tt

told_differs : (standing : Standing) (section : Section) (kind : Kind) (result : Option SizeFault) → IsSame (part_size standing) (total_of section kind)
    → IsDiffering (told_size kind) (total_of section kind) result → IsSizeFault standing section kind result
told_differs standing section kind None first h = (same_part standing (total_of section kind) first, same_told kind (total_of section kind) h)
told_differs standing section kind (Some fault) first h = inr (same_part standing (total_of section kind) first, h)

-- of a block with content
part_fault : (standing : Standing) (section : Section) (kind : Kind) (size : ℕ) (fault : SizeFault) → content_size section kind ≡ Some size
    → IsDiffering (part_size standing) size (Some fault) → IsSizeFault standing section kind (Some fault)
part_fault standing section kind size fault is h =
    inl (subst (λ size. IsOther (part_size standing) size fault) (content_total section kind size is) h)

told_fault : (standing : Standing) (section : Section) (kind : Kind) (size : ℕ) (result : Option SizeFault) → content_size section kind ≡ Some size
    → IsDiffering (part_size standing) size None → IsDiffering (told_size kind) size result → IsSizeFault standing section kind result
told_fault standing section kind size result is first h =
    let total = content_total section kind size is in
    told_differs standing section kind result (subst (λ size. IsSame (part_size standing) size) total first) (subst (λ size. IsDiffering (told_size kind) size result) total h)

pub either_fault : (standing : Standing) (section : Section) (kind : Kind) (size : ℕ) (first second : Option SizeFault) → content_size section kind ≡ Some size
    → IsDiffering (part_size standing) size first → IsDiffering (told_size kind) size second → IsSizeFault standing section kind (option_or first second)
either_fault standing section kind size None second is h g = told_fault standing section kind size second is h g
either_fault standing section kind size (Some fault) second is h g = part_fault standing section kind size fault is h

-- of a block without content, which is no part of a file
no_part : (standing : Standing) (section : Section) (kind : Kind) → content_size section kind ≡ None → position_fault standing kind ≡ None → IsOfSize standing (total_of section kind)
no_part top section kind h fits = tt
no_part (child above) section kind h fits = tt
no_part (part size) section Raw h fits = absurd (cc)
no_part (part size) section (File inline filesize parts) h fits = absurd (cc)
no_part (part size) section (Basic entries) h fits = absurd (cc)
no_part (part size) section (Shard slots) h fits = absurd (cc)
no_part (part size) section (Symlink target) h fits = absurd (cc)

no_part_there : (q : QueryParts) (want : Want) (section : Section) (kind : Kind) → content_size section kind ≡ None → fault_at q want kind ≡ None
    → IsOfSize (position_of want) (total_of section kind)
no_part_there q (segment_want i standing name path depth) section kind h fits = no_part standing section kind h fits
no_part_there q (terminal_want depth) section kind h fits = tt
no_part_there q (node_want reach standing depth) section kind h fits = no_part standing section kind h fits

tells_none : (section : Section) (kind : Kind) → content_size section kind ≡ None → TellsSize kind (total_of section kind)
tells_none section Raw h = tt
tells_none section (File inline filesize parts) h = absurd (cc)
tells_none section (Basic entries) h = tt
tells_none section (Shard slots) h = tt
tells_none section (Symlink target) h = tt

pub no_content_fault : (q : QueryParts) (want : Want) (section : Section) (kind : Kind) → content_size section kind ≡ None → fault_at q want kind ≡ None
    → IsSizeFault (position_of want) section kind None
no_content_fault q want section kind h fits = (no_part_there q want section kind h fits, tells_none section kind h)
