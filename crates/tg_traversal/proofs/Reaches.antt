-- What is left of a block that was opened.
use Rattle.tg_traversal.specs.declared.position.Reach.TheVariants as reaches
use Rattle.tg_model.specs.declared.kinds.Kind.TheVariants as kinds
use Rattle.tg_model.specs.declared.placed.PlacedKind.TheVariants as placed
use Rattle.tg_model.specs.declared.queries.Scope.TheVariants as scopes
use Rattle.std.proofs.Common.{◌≡◌, ◌∙◌, ap, ap₂, arith, sym, subst, refl, Bool, IfSome, List, None, Ok, Option, Some, [], drop, false, inl, inr, length, map, take, ℕ, ◌+◌, ◌++◌, ◌-◌, ◌<◌, ◌∷◌}
use Rattle.std.specs.Prelude.{sum, ⊤, ◌^◌, ◌⊎◌}
use Rattle.std.proofs.lemmas.List.{length-drop, length-take-le}
use Rattle.tg_cid.specs.Cid.{CidParts}
use Rattle.tg_cid.specs.declared.cid.Codec.TheVariants as codecs
use Rattle.tg_cid.specs.declared.cid.Codec.{Codec}
use Rattle.tg_traversal.specs.Frames.{ArePartsLeft, block_parts, last_parts, line_of, parts_found}
use Rattle.tg_model.specs.Computed.{read, read_under}
use Rattle.tg_traversal.specs.Opening.{IsFileHere, file_asked, is_bundled}
use Rattle.tg_traversal.specs.Places.{reach_of}
use Rattle.tg_traversal.specs.declared.position.Reach.{Reach}
use Rattle.tg_model.specs.Dag.{Section, links_of, total_of}
use Rattle.tg_model.specs.Placed.{ArePartsAhead, IsFileAt, StandsForKind}
use Rattle.tg_model.specs.Queries.{IsSpan, SpanParts}
use Rattle.tg_model.specs.Sound.{Position as Standing}
use Rattle.tg_model.specs.Sound.{top}
use Rattle.tg_model.specs.Traversal.{Visit, bundled, entire, entry_visit, file_reach, file_visits, listed, passed_over, ranged, slot_visit, text_behind, visit_by_name}
use Rattle.tg_model.specs.Traversal.{Reach as Reaching}
use Rattle.tg_model.specs.declared.kinds.Entry.{Entry}
use Rattle.tg_model.specs.declared.kinds.Kind.{Kind}
use Rattle.tg_model.specs.declared.kinds.Part.{Part}
use Rattle.tg_model.specs.declared.kinds.Slot.{Slot}
use Rattle.tg_model.specs.declared.placed.FilePlaces.{FilePlaces}
use Rattle.tg_model.specs.declared.placed.PlacedKind.{PlacedKind}
use Rattle.tg_model.specs.declared.queries.Scope.{Scope}
use Rattle.tg_model_laws.specs.Tasks.{Task, child_then, children_tasks, entries_then, node_tasks, terminal_tasks, text_last}

-- ---- the kind that something found stands for

pub raw_kind : (block : List ℕ) (kind : Kind) → StandsForKind block placed.Raw kind → kind ≡ kinds.Raw
raw_kind block kinds.Raw h = refl
raw_kind block kind h = absurd h

pub record IsFileFor (block : List ℕ) (places : FilePlaces) (kind : Kind) : Type 0 where
  pub inline : List ℕ
  pub filesize : Option ℕ
  pub parts : List Part
  pub kind_is : kind ≡ kinds.File inline filesize parts
  pub file_at : IsFileAt block places inline filesize parts

pub file_kind : (block : List ℕ) (places : FilePlaces) (kind : Kind) → StandsForKind block (placed.File places) kind → IsFileFor block places kind
file_kind block places (kinds.File inline filesize parts) h = record { inline = inline; filesize = filesize; parts = parts; kind_is = refl; file_at = h }
file_kind block places kind h = absurd h

pub basic_kind : (block : List ℕ) (entries : List Entry) (kind : Kind) → StandsForKind block (placed.Basic entries) kind → kind ≡ kinds.Basic entries
basic_kind block entries (kinds.Basic found) h = ap kinds.Basic (sym h)
basic_kind block entries kind h = absurd h

pub shard_kind : (block : List ℕ) (slots : List Slot) (kind : Kind) → StandsForKind block (placed.Shard slots) kind → kind ≡ kinds.Shard slots
shard_kind block slots (kinds.Shard found) h = ap kinds.Shard (sym h)
shard_kind block slots kind h = absurd h

abbrev pub IsLink : PlacedKind → Type 0
IsLink placed.Raw = ⊥
IsLink (placed.File places) = ⊥
IsLink (placed.Basic entries) = ⊥
IsLink (placed.Shard slots) = ⊥
IsLink (placed.Symlink target) = ⊤

pub link_kind : (block : List ℕ) (found : PlacedKind) (kind : Kind) → IsLink found → StandsForKind block found kind → (bytes : List ℕ) × (kind ≡ kinds.Symlink bytes)
link_kind block placed.Raw kind is h = absurd is
link_kind block (placed.File places) kind is h = absurd is
link_kind block (placed.Basic entries) kind is h = absurd is
link_kind block (placed.Shard slots) kind is h = absurd is
link_kind block (placed.Symlink target) (kinds.Symlink bytes) is h = (bytes, refl)
link_kind block (placed.Symlink target) kind is h = absurd h

-- ---- what is asked of a terminal

-- tasks of a terminal are those of a node of which so much is asked
abbrev pub IsAsked : Reaching → Scope → Option SpanParts → ℕ → Section → Kind → Type 0
IsAsked reach scope span depth section kind = node_tasks reach top depth kind (links_of kind) ≡ terminal_tasks scope span depth section kind (links_of kind)

abbrev pub IsAskedFor : Scope → Option SpanParts → Type 0
IsAskedFor scope span = IfSome span (λ s. (scope ≡ scopes.Entity) × IsSpan s)

raw_asked : (scope : Scope) (span : Option SpanParts) (depth : ℕ) (section : Section) → (scope ≡ scopes.Block → ⊥) → IsAsked entire scope span depth section kinds.Raw
raw_asked scopes.Block span depth section h = absurd (h refl)
raw_asked scopes.Entity None depth section h = refl
raw_asked scopes.Entity (Some span) depth section h = refl
raw_asked scopes.All span depth section h = refl

link_asked : (scope : Scope) (span : Option SpanParts) (depth : ℕ) (section : Section) (bytes : List ℕ) → (scope ≡ scopes.Block → ⊥)
    → IsAsked entire scope span depth section (kinds.Symlink bytes)
link_asked scopes.Block span depth section bytes h = absurd (h refl)
link_asked scopes.Entity span depth section bytes h = refl
link_asked scopes.All span depth section bytes h = refl

parts_asked : (scope : Scope) (span : Option SpanParts) (depth : ℕ) (section : Section) (total : ℕ) (inline : List ℕ) (filesize : Option ℕ) (parts : List Part)
    → IsAskedFor scope span → (scope ≡ scopes.Block → ⊥) → total ≡ total_of section (kinds.File inline filesize parts)
    → IsAsked (file_reach span total) scope span depth section (kinds.File inline filesize parts)
parts_asked scopes.Block span depth section total inline filesize parts w h e = absurd (h refl)
parts_asked scopes.Entity span depth section total inline filesize parts w h e =
    ap (λ (total : ℕ). node_tasks (file_reach span total) top depth (kinds.File inline filesize parts) (links_of (kinds.File inline filesize parts))) e
parts_asked scopes.All None depth section total inline filesize parts w h e = refl
parts_asked scopes.All (Some span) depth section total inline filesize parts w h e = absurd (let f = w.0 in cc)

abbrev pub IsNoDirectory : PlacedKind → Type 0
IsNoDirectory placed.Raw = ⊤
IsNoDirectory (placed.File places) = ⊤
IsNoDirectory (placed.Basic entries) = ⊥
IsNoDirectory (placed.Shard slots) = ⊥
IsNoDirectory (placed.Symlink target) = ⊤

pub file_terminal : (scope : Scope) (span : Option SpanParts) (depth : ℕ) (section : Section) (found : PlacedKind) (kind : Kind) → IsAskedFor scope span
    → (scope ≡ scopes.Block → ⊥) → StandsForKind section.block found kind → IsNoDirectory found → IsAsked (file_asked span found) scope span depth section kind
file_terminal scope span depth section placed.Raw kind w h stands plain =
    subst (λ (k : Kind). IsAsked entire scope span depth section k) (sym (raw_kind section.block kind stands)) (raw_asked scope span depth section h)
file_terminal scope span depth section (placed.File places) kind w h stands plain =
    let file = file_kind section.block places kind stands in
    subst (λ (k : Kind). IsAsked (file_reach span places.total) scope span depth section k) (sym file.kind_is)
    (parts_asked scope span depth section places.total file.inline file.filesize file.parts w h (file.file_at.total_is section))
file_terminal scope span depth section (placed.Basic entries) kind w h stands plain = absurd plain
file_terminal scope span depth section (placed.Shard slots) kind w h stands plain = absurd plain
file_terminal scope span depth section (placed.Symlink target) kind w h stands plain =
    let link = link_kind section.block (placed.Symlink target) kind tt stands in
    subst (λ (k : Kind). IsAsked entire scope span depth section k) (sym link.1) (link_asked scope span depth section link.0 h)

-- ---- links at which nothing is done

pub none_done : {A : Type 0} (visit : A → Visit) (cid : A → CidParts) → ((a : A) → visit a ≡ passed_over) → (depth : ℕ) (xs : List A)
    → children_tasks (map visit xs) depth (map cid xs) ≡ []
none_done visit cid h depth [] = refl
none_done visit cid h depth (x ∷ xs) =
    ap (λ (v : Visit). entries_then v.met (child_then v.into depth (cid x) (children_tasks (map visit xs) depth (map cid xs)))) (h x) ∙ none_done visit cid h depth xs

abbrev pub IsInFile : Reach → Type 0
IsInFile reach = (reach ≡ reaches.Entire) ⊎ ((low : ℕ) × (high : ℕ) × (reach ≡ reaches.Ranged low high))

entry_passed : (reach : Reach) → IsInFile reach → (entry : Entry) → entry_visit (reach_of reach) entry.name entry.cid ≡ passed_over
entry_passed reach (inl e) entry = ap (λ (r : Reach). entry_visit (reach_of r) entry.name entry.cid) e
entry_passed reach (inr (low, high, e)) entry = ap (λ (r : Reach). entry_visit (reach_of r) entry.name entry.cid) e

pub entries_passed : (reach : Reach) (depth : ℕ) (entries : List Entry) → IsInFile reach
    → [] ≡ children_tasks (map (λ entry. entry_visit (reach_of reach) entry.name entry.cid) entries) depth (map (λ entry. entry.cid) entries)
entries_passed reach depth entries h = sym (none_done (λ entry. entry_visit (reach_of reach) entry.name entry.cid) (λ entry. entry.cid) (entry_passed reach h) depth entries)

name_passed_entire : (standing : Standing) (number : ℕ) (cid : CidParts) (name : Option (List ℕ)) → visit_by_name (reach_of reaches.Entire) standing number cid name ≡ passed_over
name_passed_entire standing number cid None = refl
name_passed_entire standing number cid (Some name) = refl

name_passed_ranged : (low high : ℕ) (standing : Standing) (number : ℕ) (cid : CidParts) (name : Option (List ℕ))
    → visit_by_name (reach_of (reaches.Ranged low high)) standing number cid name ≡ passed_over
name_passed_ranged low high standing number cid None = refl
name_passed_ranged low high standing number cid (Some name) = refl

slot_passed : (reach : Reach) (standing : Standing) → IsInFile reach → (slot : Slot) → slot_visit (reach_of reach) standing slot ≡ passed_over
slot_passed reach standing (inl e) slot =
    ap (λ (r : Reach). slot_visit (reach_of r) standing slot) e ∙ name_passed_entire standing slot.slot slot.cid slot.name
slot_passed reach standing (inr (low, high, e)) slot =
    ap (λ (r : Reach). slot_visit (reach_of r) standing slot) e ∙ name_passed_ranged low high standing slot.slot slot.cid slot.name

pub slots_passed : (reach : Reach) (standing : Standing) (depth : ℕ) (slots : List Slot) → IsInFile reach
    → [] ≡ children_tasks (map (slot_visit (reach_of reach) standing) slots) depth (map (λ slot. slot.cid) slots)
slots_passed reach standing depth slots h = sym (none_done (slot_visit (reach_of reach) standing) (λ slot. slot.cid) (slot_passed reach standing h) depth slots)

pub parts_passed : (depth : ℕ) (parts : List Part) → children_tasks (map (λ (p : Part). passed_over) parts) depth (map (λ (p : Part). p.cid) parts) ≡ []
parts_passed depth parts = none_done (λ (p : Part). passed_over) (λ (p : Part). p.cid) (λ p. refl) depth parts

-- ---- the parts of a file

inline_length : (block : List ℕ) (places : FilePlaces) (inline : List ℕ) (filesize : Option ℕ) (parts : List Part) → IsFileAt block places inline filesize parts
    → places.inline.end - places.inline.start ≡ length inline
inline_length block places inline filesize parts h =
    let size : length (take (places.inline.end - places.inline.start) (drop places.inline.start block)) ≡ places.inline.end - places.inline.start =
    length-take-le (places.inline.end - places.inline.start) (drop places.inline.start block)
    (omega (arith, length-drop places.inline.start block, h.inline_at.inside.0, h.inline_at.inside.1)) in
    sym size ∙ ap (λ (bytes : List ℕ). length bytes) h.inline_at.bytes_are

all_parts : (held : List ℕ) (count : ℕ) (parts : List Part) → block_parts held ≡ parts → count ≡ length parts → last_parts held count ≡ parts
all_parts held count parts e h =
    let n : length (block_parts held) ≡ length parts = ap (λ (ps : List Part). length ps) e in
    let none : length (block_parts held) - count ≡ 0 = omega arith in
    ap₂ (λ (k : ℕ) (ps : List Part). drop k ps) none e

pub parts_are_left : (places : FilePlaces) (block held inline : List ℕ) (filesize : Option ℕ) (parts : List Part) (range : Option (ℕ × ℕ)) → places.total < 2 ^ 64
    → held ≡ block → IsFileHere places block inline filesize parts
    → ArePartsLeft (record { block = held; cursor = places.parts; count = places.count; from = places.inline.end - places.inline.start; range = range })
parts_are_left places block held inline filesize parts range small copy h =
    let same : held ≡ h.section.block = copy ∙ sym h.block_is in
    let parts_are : block_parts held ≡ parts = ap block_parts same ∙ h.parts_are in
    let last : last_parts held places.count ≡ parts = all_parts held places.count parts parts_are h.file_at.count_is in
    let as_many : length (block_parts held) ≡ length parts = ap (λ (ps : List Part). length ps) parts_are in
    let count : places.count ≡ length parts = h.file_at.count_is in
    let sizes : sum (map (λ (p : Part). p.size) (last_parts held places.count)) ≡ sum (map (λ (p : Part). p.size) parts) =
    ap (λ (ps : List Part). sum (map (λ (p : Part). p.size) ps)) last in
    let from : places.inline.end - places.inline.start ≡ length inline = inline_length h.section.block places inline filesize parts h.file_at in
    let total : places.total ≡ length inline + sum (map (λ (p : Part). p.size) parts) = h.file_at.total_is h.section in
    record {
      few = omega arith;
      ahead = subst (λ (ps : List Part). ArePartsAhead held places.parts ps) (sym last)
          (subst (λ (block : List ℕ). ArePartsAhead block places.parts parts) (sym same) h.file_at.parts_ahead);
      sized = omega arith;
    }

pub parts_listed : (reach : Reach) (depth : ℕ) (inline : List ℕ) (parts : List Part) → reach ≡ reaches.Listed
    → [] ≡ children_tasks (file_visits (reach_of reach) inline parts) depth (map (λ part. part.cid) parts)
parts_listed reach depth inline parts e =
    sym (ap (λ (r : Reach). children_tasks (file_visits (reach_of r) inline parts) depth (map (λ (p : Part). p.cid) parts)) e ∙ parts_passed depth parts)

-- ---- frames

dagpb_parts : (codec : Codec) (block inline : List ℕ) (filesize : Option ℕ) (parts : List Part) → read_under codec block ≡ Ok (kinds.File inline filesize parts)
    → block_parts block ≡ parts
dagpb_parts codecs.Raw block inline filesize parts e = absurd (cc)
dagpb_parts codecs.DagPb block inline filesize parts e = ap parts_found e

pub file_here : (section : Section) (places : FilePlaces) (block : List ℕ) (kind : Kind) → read section.cid section.block ≡ Ok kind → (file : IsFileFor section.block places kind)
    → section.block ≡ block → IsFileHere places block file.inline file.filesize file.parts
file_here section places block kind reads file e = record {
  section = section;
  block_is = e;
  file_at = file.file_at;
  parts_are = dagpb_parts section.cid.codec section.block file.inline file.filesize file.parts (reads ∙ ap Ok file.kind_is);
}

line_behind : (reach : Reaching) (inline : List ℕ) (filesize : Option ℕ) (parts : List Part) → line_of (is_bundled reach) ≡ text_behind reach (kinds.File inline filesize parts)
line_behind (bundled path) inline filesize parts = refl
line_behind entire inline filesize parts = refl
line_behind (ranged low high) inline filesize parts = refl
line_behind listed inline filesize parts = refl

no_line : (reach : Reaching) (entries : List Entry) → text_behind reach (kinds.Basic entries) ≡ []
no_line (bundled path) entries = refl
no_line entire entries = refl
no_line (ranged low high) entries = refl
no_line listed entries = refl

pub file_tasks : (reach : Reaching) (standing : Standing) (depth : ℕ) (kind : Kind) (inline : List ℕ) (filesize : Option ℕ) (parts : List Part) (tasks : List (Task CidParts)) (line : Bool)
    → kind ≡ kinds.File inline filesize parts → tasks ≡ children_tasks (file_visits reach inline parts) (depth + 1) (map (λ part. part.cid) parts) → line ≡ is_bundled reach
    → tasks ++ text_last (line_of line) ≡ node_tasks reach standing depth kind (links_of kind)
file_tasks reach standing depth kind inline filesize parts tasks line is e l =
    subst (λ (k : Kind). tasks ++ text_last (line_of line) ≡ node_tasks reach standing depth k (links_of k)) (sym is)
    (ap₂ (λ (xs ys : List (Task CidParts)). xs ++ ys) e (ap (λ (line : Bool). text_last {X = CidParts} (line_of line)) l
    ∙ ap (λ (text : List ℕ). text_last {X = CidParts} text) (line_behind reach inline filesize parts)))

pub basic_tasks : (reach : Reaching) (standing : Standing) (depth : ℕ) (kind : Kind) (entries : List Entry) (tasks : List (Task CidParts)) → kind ≡ kinds.Basic entries
    → tasks ≡ children_tasks (map (λ entry. entry_visit reach entry.name entry.cid) entries) (depth + 1) (map (λ entry. entry.cid) entries)
    → tasks ++ text_last (line_of false) ≡ node_tasks reach standing depth kind (links_of kind)
basic_tasks reach standing depth kind entries tasks is e =
    subst (λ (k : Kind). tasks ++ text_last (line_of false) ≡ node_tasks reach standing depth k (links_of k)) (sym is)
    (ap₂ (λ (xs ys : List (Task CidParts)). xs ++ ys) e (ap (λ (text : List ℕ). text_last {X = CidParts} text) (sym (no_line reach entries))))
