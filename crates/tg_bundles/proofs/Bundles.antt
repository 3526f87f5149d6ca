-- A bundle is the text of the records of its DAG.
use Rattle.std.proofs.Common.{List, None, Option, Some, [], ap, ap₂, append_assoc, append-nil, length, map, refl, sym, ℕ, ◌++◌, ◌∙◌, ◌∷◌, ◌≡◌}
use Rattle.std.proofs.lemmas.List.Concat.{flat_map-append}
use Rattle.tg_bundles.specs.Laws.{AnswersHaveRecords, BundlesHaveRecords}
use Rattle.tg_bundles.specs.Records.{Record, bundle_text, file, joined_all, link, path_text, record_text, records_inside, records_of, records_of_entries, records_of_slots, slot_records}
use Rattle.tg_bytes.specs.Ascii.{line_feed, slash}
use Rattle.tg_model.specs.Answer.{bundle, bundle_inside, bundle_of_entries, bundle_of_slots, slot_bundle}
use Rattle.tg_model.specs.Content.{content, content_of_children, part_positions}
use Rattle.tg_model.specs.Dag.{AreWhole, Children, Dag, IsWhole, Section, bare, no_child, node, total_of, unopened, with_child}
use Rattle.tg_model.specs.Sound.{AreCheckedAt, IsCheckedAt, IsSound, Position, child, passed, position_by_name, slot_position, top}
use Rattle.tg_model.specs.Texts.{dir_line, file_line, joined, link_line}
use Rattle.tg_model.specs.declared.kinds.Entry.{Entry}
use Rattle.tg_model.specs.declared.kinds.Kind.TheVariants.{Basic, File, Raw, Shard, Symlink}
use Rattle.tg_model.specs.declared.kinds.Part.{Part}
use Rattle.tg_model.specs.declared.kinds.Slot.{Slot}
use Rattle.tg_model_laws.specs.FileSizes.{TotalIsLength}

-- ---- paths and texts

joined_last : (path : List ℕ) (names : List (List ℕ)) (name : List ℕ) → joined_all path (names ++ name ∷ []) ≡ joined (joined_all path names) name
joined_last path [] name = refl
joined_last path (own ∷ names) name = joined_last (joined path own) names name

path_below : (names : List (List ℕ)) (name : List ℕ) → joined (path_text names) name ≡ path_text (names ++ name ∷ [])
path_below names name = sym (joined_last (slash ∷ []) names name)

text_split : (a b : List Record) → bundle_text (a ++ b) ≡ bundle_text a ++ bundle_text b
text_split a b = flat_map-append record_text a b

-- ---- the records of one node

file_text : (size : ℕ) (path : List (List ℕ)) (bytes : List ℕ) → length bytes ≡ size
    → file_line size (path_text path) ++ (bytes ++ line_feed ∷ []) ≡ bundle_text (file path bytes ∷ [])
file_text size path bytes e =
    ap (λ (n : ℕ). file_line n (path_text path) ++ (bytes ++ line_feed ∷ [])) (sym e) ∙ sym (append-nil (record_text (file path bytes)))

parts_text : TotalIsLength → (path : List (List ℕ)) (section : Section) (inline : List ℕ) (filesize : Option ℕ) (parts : List Part) (children : Children)
    → IsSound (node section (File inline filesize parts) children)
    → bundle (path_text path) (node section (File inline filesize parts) children) ≡ bundle_text (records_of path (node section (File inline filesize parts) children))
parts_text sizes path section inline filesize parts children sound =
    let kind = File inline filesize parts in
    let size = total_of section kind in
    let rest = content_of_children (part_positions top kind) children in
    ap (λ (l : List ℕ). file_line size (path_text path) ++ l) (sym (append_assoc inline rest (line_feed ∷ [])))
    ∙ file_text size path (content (node section kind children)) (sizes (node section kind children) sound tt)

link_text : (path : List (List ℕ)) (target : List ℕ)
    → link_line (length target) (path_text path) ++ (target ++ line_feed ∷ []) ≡ bundle_text (link path target ∷ [])
link_text path target = sym (append-nil (record_text (link path target)))

-- ---- and those below

slot_text : (path : List (List ℕ)) (d : Dag) (above : List ℕ) (name : Option (List ℕ)) → IsCheckedAt (position_by_name above name) d
    → (IsCheckedAt top d → (own : List (List ℕ)) → bundle (path_text own) d ≡ bundle_text (records_of own d))
    → (IsCheckedAt (child above) d → bundle_inside (path_text path) d ≡ bundle_text (records_inside path d))
    → slot_bundle (λ n. bundle (joined (path_text path) n) d) (bundle_inside (path_text path) d) name
    ≡ bundle_text (slot_records (λ n. records_of (path ++ n ∷ []) d) (records_inside path d) name)
slot_text path d above (Some name) c entry inside = ap (λ (p : List ℕ). bundle p d) (path_below path name) ∙ entry c (path ++ name ∷ [])
slot_text path d above None c entry inside = inside c

module _ (sizes : TotalIsLength) where
  mutual
    bundle_is : (d : Dag) (path : List (List ℕ)) → IsWhole d → IsCheckedAt top d → bundle (path_text path) d ≡ bundle_text (records_of path d)
    bundle_is (unopened cid) path w c = refl
    bundle_is (bare section fault) path w c = refl
    bundle_is (node section Raw children) path w c = file_text (length section.block) path section.block refl
    bundle_is (node section (File inline filesize parts) children) path w c =
        parts_text sizes path section inline filesize parts children (record { whole = w; checked = c })
    bundle_is (node section (Basic es) children) path w c = ap (λ (l : List ℕ). dir_line (path_text path) ++ l) (entries_are es children path w c.1)
    bundle_is (node section (Shard slots) children) path w c = ap (λ (l : List ℕ). dir_line (path_text path) ++ l) (slots_are [] slots children path w c.1)
    bundle_is (node section (Symlink target) children) path w c = link_text path target

    entries_are : (es : List Entry) (children : Children) (path : List (List ℕ)) → AreWhole children → AreCheckedAt (map (λ entry. top) es) children
        → bundle_of_entries (path_text path) es children ≡ bundle_text (records_of_entries path es children)
    entries_are es no_child path w c = refl
    entries_are [] (with_child d children) path w c = refl
    entries_are (entry ∷ es) (with_child d children) path w c =
        ap₂ (λ (a b : List ℕ). a ++ b)
        (ap (λ (p : List ℕ). bundle p d) (path_below path entry.name) ∙ bundle_is d (path ++ entry.name ∷ []) w.0 c.0)
        (entries_are es children path w.1 c.1)
        ∙ sym (text_split (records_of (path ++ entry.name ∷ []) d) (records_of_entries path es children))

    slots_are : (above : List ℕ) (slots : List Slot) (children : Children) (path : List (List ℕ)) → AreWhole children
        → AreCheckedAt (map (slot_position above) slots) children
        → bundle_of_slots (path_text path) slots children ≡ bundle_text (records_of_slots path slots children)
    slots_are above slots no_child path w c = refl
    slots_are above [] (with_child d children) path w c = refl
    slots_are above (slot ∷ slots) (with_child d children) path w c =
        ap₂ (λ (a b : List ℕ). a ++ b)
        (slot_text path d (above ++ slot.slot ∷ []) slot.name c.0 (λ h own. bundle_is d own w.0 h)
        (λ h. inside_is (child (above ++ slot.slot ∷ [])) d path w.0 h))
        (slots_are above slots children path w.1 c.1)
        ∙ sym (text_split (slot_records (λ name. records_of (path ++ name ∷ []) d) (records_inside path d) slot.name) (records_of_slots path slots children))

    inside_is : (position : Position) (d : Dag) (path : List (List ℕ)) → IsWhole d → IsCheckedAt position d
        → bundle_inside (path_text path) d ≡ bundle_text (records_inside path d)
    inside_is position (unopened cid) path w c = refl
    inside_is position (bare section fault) path w c = refl
    inside_is position (node section Raw children) path w c = refl
    inside_is position (node section (File inline filesize parts) children) path w c = refl
    inside_is position (node section (Basic es) children) path w c = refl
    inside_is position (node section (Shard slots) children) path w c = slots_are (passed position) slots children path w c.1
    inside_is position (node section (Symlink target) children) path w c = refl

pub bundles_have_records : TotalIsLength → BundlesHaveRecords
bundles_have_records sizes d path sound = bundle_is sizes d path sound.whole sound.checked

pub answers_have_records : TotalIsLength → AnswersHaveRecords
answers_have_records sizes (unopened cid) sound is = absurd (cc is)
answers_have_records sizes (bare section fault) sound is = absurd (cc is)
answers_have_records sizes (node section Raw children) sound is = absurd (cc is)
answers_have_records sizes (node section (File inline filesize parts) children) sound is = absurd (cc is)
answers_have_records sizes (node section (Basic es) children) sound is = bundles_have_records sizes (node section (Basic es) children) [] sound
answers_have_records sizes (node section (Shard slots) children) sound is = bundles_have_records sizes (node section (Shard slots) children) [] sound
answers_have_records sizes (node section (Symlink target) children) sound is = absurd (cc is)
