-- What was made of an answer is what stands where the query's path leads to.
use Rattle.std.proofs.Common.{All, Bool, Contains, List, None, Option, Some, [], ap, append-nil, append_assoc, arith, cond, false, inl, inr, length, map, refl, subst, sym, true}
use Rattle.std.proofs.Common.{ℕ, ◌+◌, ◌++◌, ◌∙◌, ◌∷◌, ◌≡◌, ◌≢◌}
use Rattle.std.proofs.lemmas.List.{append_cancel_left, length-append}
use Rattle.std.proofs.lemmas.List.Concat.{flat_map-append}
use Rattle.std.proofs.lemmas.List.Elements.{All-append, All-cons, All-contains, All-head, All-nil, All-tail, All-weaker}
use Rattle.std.proofs.lemmas.List.Elements.{Contains-append_left, Contains-append_right, Contains-push, Contains-push_cases}
use Rattle.std.specs.Prelude.{IfSome, bytes_eq, codes}
use Rattle.tg_bundles.specs.Laws.{AnswersHaveRecords, AreRecordsOf, RecordsAreTree}
use Rattle.tg_bundles.specs.Reading.{IsCounted, RecordsAreProper}
use Rattle.tg_bundles.specs.Records.{Record, bundle_text, file, folder, link, path_text, record_text, records_of}
use Rattle.tg_bytes.specs.Ascii.{line_feed}
use Rattle.tg_bytes.specs.Lists.{All-split}
use Rattle.tg_extract.specs.Answers.{BadAnswers, FrontAnswers, FrontTrees, IsAllMade, IsFrontMade, IsMeasured, LinkAnswers, MadeAt, WholeAnswers, WholeTrees}
use Rattle.tg_extract.specs.Extracts.{IsAtStage, IsBad, IsOfBundle, IsRead, IsStuck, kind_of, link_at, made_text, open_text, record_made, records_made, text_read}
use Rattle.tg_extract.specs.Laws.{FileIsMade, FrontIsMade, HasBegun, HasFirst, HasFirstBad, HasFirstBytes, HasFirstLink}
use Rattle.tg_extract.specs.declared.extract.Stage.{Stage}
use Rattle.tg_extract.specs.declared.extract.Stage.TheVariants as stages
use Rattle.tg_model.specs.Answer.{all_text, answer, answer_at, node_text}
use Rattle.tg_model.specs.Content.{DirEntry, content_of_children, entries, entries_of_slots, named_children, slot_entries}
use Rattle.tg_model.specs.Dag.{AreWhole, Children, Dag, IsWhole, bare, blocks, blocks_of_children, no_child, node, unopened, with_child}
use Rattle.tg_model.specs.Fits.{IsFrontOfAnswer}
use Rattle.tg_model.specs.Lookup.{entry_named, found, is_directory, lookup_below, lookup_from, lookup_in, lookup_path}
use Rattle.tg_model.specs.Queries.{QueryParts}
use Rattle.tg_model.specs.Sound.{AreCheckedAt, IsCheckedAt, IsSound, Position, child, passed, position_by_name, slot_position, top}
use Rattle.tg_model.specs.Texts.{file_line, link_line}
use Rattle.tg_model.specs.declared.kinds.Entry.{Entry}
use Rattle.tg_model.specs.declared.kinds.Kind.TheVariants.{Basic, File, Raw, Shard, Symlink}
use Rattle.tg_model.specs.declared.kinds.Slot.{Slot}
use Rattle.tg_model.specs.declared.queries.Scope.{Scope}
use Rattle.tg_model.specs.declared.queries.Scope.TheVariants as scopes
use Rattle.tg_new_tree.specs.declared.made.Made.{Made}
use Rattle.tg_new_tree.specs.declared.made.Made.TheVariants as makes
use Rattle.tg_verify.specs.Terminals.{IsOfKind}
use Rattle.tg_verify.specs.declared.terminal.Terminal.{Terminal}
use Rattle.tg_verify.specs.declared.terminal.Terminal.TheVariants as terminals

-- ---- what a path leads to in a sound DAG is sound, and its blocks are among the DAG's

abbrev IsGood : Dag → Type 0
IsGood d = IsSound d × IsMeasured d

abbrev IsGoodEntry : DirEntry → Type 0
IsGoodEntry e = IsGood e.dag

named_good : (es : List Entry) (children : Children) → AreWhole children → AreCheckedAt (map (λ e. top) es) children
    → All IsCounted (blocks_of_children children) → All IsGoodEntry (named_children es children)
named_good es no_child w c m = All-nil IsGoodEntry
named_good [] (with_child d children) w c m = All-nil IsGoodEntry
named_good (entry ∷ es) (with_child d children) w c m =
    let (own, others) = All-split IsCounted (blocks d) (blocks_of_children children) m in
    All-cons IsGoodEntry (record { name = entry.name; dag = d }) (named_children es children) (record { whole = w.0; checked = c.0 }, own)
    (named_good es children w.1 c.1 others)

slot_good : (above : List ℕ) (name : Option (List ℕ)) (d : Dag) → IsWhole d → All IsCounted (blocks d)
    → (IsCheckedAt (child above) d → All IsGoodEntry (entries d)) → IsCheckedAt (position_by_name above name) d
    → All IsGoodEntry (slot_entries name d (entries d))
slot_good above (Some name) d w m inside c =
    All-cons IsGoodEntry (record { name = name; dag = d }) [] (record { whole = w; checked = c }, m) (All-nil IsGoodEntry)
slot_good above None d w m inside c = inside c

mutual
  entries_good : (position : Position) (d : Dag) → IsWhole d → IsCheckedAt position d → All IsCounted (blocks d) → All IsGoodEntry (entries d)
  entries_good position (unopened cid) w c m = All-nil IsGoodEntry
  entries_good position (bare section fault) w c m = All-nil IsGoodEntry
  entries_good position (node section Raw children) w c m = All-nil IsGoodEntry
  entries_good position (node section (File inline filesize parts) children) w c m = All-nil IsGoodEntry
  entries_good position (node section (Basic es) children) w c m =
      named_good es children w c.1 (All-tail IsCounted section (blocks_of_children children) m)
  entries_good position (node section (Shard slots) children) w c m =
      slots_good (passed position) slots children w c.1 (All-tail IsCounted section (blocks_of_children children) m)
  entries_good position (node section (Symlink target) children) w c m = All-nil IsGoodEntry

  slots_good : (above : List ℕ) (slots : List Slot) (children : Children) → AreWhole children → AreCheckedAt (map (slot_position above) slots) children
      → All IsCounted (blocks_of_children children) → All IsGoodEntry (entries_of_slots slots children)
  slots_good above slots no_child w c m = All-nil IsGoodEntry
  slots_good above [] (with_child d children) w c m = All-nil IsGoodEntry
  slots_good above (slot ∷ slots) (with_child d children) w c m =
      let (own, others) = All-split IsCounted (blocks d) (blocks_of_children children) m in
      All-append IsGoodEntry (slot_entries slot.name d (entries d)) (entries_of_slots slots children)
      (slot_good (above ++ slot.slot ∷ []) slot.name d w.0 own (λ h. entries_good (child (above ++ slot.slot ∷ [])) d w.0 h own) c.0)
      (slots_good above slots children w.1 c.1 others)

entry_good : (listed : List DirEntry) (name : List ℕ) (below : Dag) → All IsGoodEntry listed → entry_named name listed ≡ Some below → IsGood below
entry_good [] name below all is = absurd (cc is)
entry_good (x ∷ listed) name below all is =
    by (bytes_eq name x.name) is (λ h. entry_good listed name below (All-tail IsGoodEntry x listed all) h)
  where
    by : (b : Bool) → cond b (Some x.dag) (entry_named name listed) ≡ Some below → (entry_named name listed ≡ Some below → IsGood below) → IsGood below
    by true h on = let same : x.dag ≡ below = cc h in subst IsGood same (All-head IsGoodEntry x listed all)
    by false h on = on h

led_good : (path : List (List ℕ)) (i : ℕ) (d x : Dag) → IsGood d → lookup_from i path d ≡ found x → IsGood x
led_good [] i d x good is = let same : d ≡ x = cc is in subst IsGood same good
led_good (name ∷ path) i d x good is = by (is_directory d) is (λ below h e. led_good path (i + 1) below x h e)
  where
    under : (o : Option Dag) → entry_named name (entries d) ≡ o → lookup_below i (lookup_from (i + 1) path) o ≡ found x
        → ((below : Dag) → IsGood below → lookup_from (i + 1) path below ≡ found x → IsGood x) → IsGood x
    under None none h on = absurd (cc h)
    under (Some below) some h on =
        on below (entry_good (entries d) name below (entries_good top d good.0.whole good.0.checked good.1) some) h

    by : (b : Bool) → lookup_in i (lookup_from (i + 1) path) name d b ≡ found x
        → ((below : Dag) → IsGood below → lookup_from (i + 1) path below ≡ found x → IsGood x) → IsGood x
    by true h on = under (entry_named name (entries d)) refl h on
    by false h on = absurd (cc h)

-- ---- the records of such a node by what it is

kind_is : (x : Dag) (a t : Terminal) → Some a ≡ Some t → IsOfKind x t → IsOfKind x a
kind_is x a t e h = let same : t ≡ a = cc e in subst (IsOfKind x) same h

none_is : {A : Type 0} (t : Terminal) → None ≡ Some t → A
none_is t e = absurd (cc e)

directory_is : (x : Dag) → IsOfKind x terminals.Directory → is_directory x ≡ true
directory_is (unopened cid) h = absurd h
directory_is (bare section fault) h = absurd h
directory_is (node section Raw children) h = absurd (cc h)
directory_is (node section (File inline filesize parts) children) h = absurd (cc h)
directory_is (node section (Basic es) children) h = refl
directory_is (node section (Shard slots) children) h = refl
directory_is (node section (Symlink target) children) h = absurd (cc h)

no_parts : (children : Children) → content_of_children [] children ≡ []
no_parts no_child = refl
no_parts (with_child d children) = refl

file_records : (x : Dag) → IsOfKind x terminals.File → records_of [] x ≡ file [] (all_text x) ∷ []
file_records (unopened cid) h = absurd h
file_records (bare section fault) h = absurd h
file_records (node section Raw children) h =
    ap (λ (bytes : List ℕ). file [] bytes ∷ []) (sym (ap (λ (l : List ℕ). section.block ++ l) (no_parts children) ∙ append-nil section.block))
file_records (node section (File inline filesize parts) children) h = refl
file_records (node section (Basic es) children) h = absurd (cc h)
file_records (node section (Shard slots) children) h = absurd (cc h)
file_records (node section (Symlink target) children) h = absurd (cc h)

link_records : (x : Dag) → IsOfKind x terminals.Symlink → records_of [] x ≡ link [] (all_text x) ∷ []
link_records (unopened cid) h = absurd h
link_records (bare section fault) h = absurd h
link_records (node section Raw children) h = absurd (cc h)
link_records (node section (File inline filesize parts) children) h = absurd (cc h)
link_records (node section (Basic es) children) h = absurd (cc h)
link_records (node section (Shard slots) children) h = absurd (cc h)
link_records (node section (Symlink target) children) h = refl

-- ---- where the text ends with the bundle

text_split : (a b : List Record) → bundle_text (a ++ b) ≡ bundle_text a ++ bundle_text b
text_split a b = flat_map-append record_text a b

-- each record's text ends with a line feed
record_ends : (r : Record) → (front : List ℕ) × (record_text r ≡ front ++ line_feed ∷ [])
record_ends (folder path) = (codes "dir " ++ path_text path, sym (append_assoc (codes "dir ") (path_text path) (line_feed ∷ [])))
record_ends (file path bytes) = (file_line (length bytes) (path_text path) ++ bytes, sym (append_assoc (file_line (length bytes) (path_text path)) bytes (line_feed ∷ [])))
record_ends (link path target) = (link_line (length target) (path_text path) ++ target, sym (append_assoc (link_line (length target) (path_text path)) target (line_feed ∷ [])))

has_feed : (front behind : List ℕ) → All (λ b. b ≢ line_feed) ((front ++ line_feed ∷ []) ++ behind) → ⊥
has_feed [] behind all = All-head (λ (b : ℕ). b ≢ line_feed) line_feed behind all refl
has_feed (b ∷ front) behind all = has_feed front behind (All-tail (λ (c : ℕ). c ≢ line_feed) b ((front ++ line_feed ∷ []) ++ behind) all)

no_records : (records : List Record) → All (λ b. b ≢ line_feed) (bundle_text records) → records ≡ []
no_records [] all = refl
no_records (r ∷ records) all =
    let (front, is) = record_ends r in
    absurd (has_feed front (bundle_text records) (subst (λ (l : List ℕ). All (λ b. b ≢ line_feed) (l ++ bundle_text records)) is all))

line_whole : (made : List Made) (line : List ℕ) (records : List Record) → All (λ b. b ≢ line_feed) line → HasFirst made records
    → bundle_text (records_made made) ++ line ≡ bundle_text records → records_made made ≡ records
line_whole made line records all first e =
    let rest : line ≡ bundle_text first.more = append_cancel_left (bundle_text (records_made made)) line (bundle_text first.more)
    (e ∙ ap bundle_text first.are ∙ text_split (records_made made) first.more) in
    let none : first.more ≡ [] = no_records first.more (subst (All (λ b. b ≢ line_feed)) rest all) in
    sym (first.are ∙ ap (λ (l : List Record). records_made made ++ l) none ∙ append-nil (records_made made))

-- bytes of a file that came, and its end that didn't
open_is : (before : List Made) (last : Made) (left : ℕ) → open_text (before ++ last ∷ []) left ≡ bundle_text (records_made before) ++ made_text last left
open_is [] last left = refl
open_is (made ∷ []) last left = ap (λ (l : List ℕ). l ++ made_text last left) (sym (append-nil (record_text (record_made made))))
open_is (made ∷ next ∷ before) last left =
    ap (λ (l : List ℕ). record_text (record_made made) ++ l) (open_is (next ∷ before) last left)
    ∙ sym (append_assoc (record_text (record_made made)) (bundle_text (records_made (next ∷ before))) (made_text last left))

too_short : (a b held last behind : List ℕ) → a ≡ b → a ++ held ≡ (b ++ ((held ++ last) ++ line_feed ∷ [])) ++ behind → ⊥
too_short a b held last behind same e =
    omega (
      arith,
      ap length same,
      ap length e,
      length-append a held,
      length-append (b ++ ((held ++ last) ++ line_feed ∷ [])) behind,
      length-append b ((held ++ last) ++ line_feed ∷ []),
      length-append (held ++ last) (line_feed ∷ []),
      length-append held last,
    )

content_short : (made : List Made) (left : ℕ) (records : List Record) → HasFirstBytes made left records → open_text made left ≡ bundle_text records → ⊥
content_short made left records cut e =
    let size : length cut.held + left ≡ length (cut.held ++ cut.last) = omega (arith, cut.amount, length-append cut.held cut.last) in
    let own = file_line (length cut.held + left) (path_text cut.path) in
    let whole = file_line (length (cut.held ++ cut.last)) (path_text cut.path) in
    let text = record_text (file cut.path (cut.held ++ cut.last)) ++ bundle_text cut.more in
    let both : bundle_text (records_made cut.before) ++ (own ++ cut.held) ≡ bundle_text (records_made cut.before) ++ text =
    sym (ap (λ (l : List Made). open_text l left) cut.made_is ∙ open_is cut.before (makes.File cut.path cut.held) left)
    ∙ (e ∙ (ap bundle_text cut.are ∙ text_split (records_made cut.before) (file cut.path (cut.held ++ cut.last) ∷ cut.more))) in
    too_short own whole cut.held cut.last (bundle_text cut.more) (ap (λ (n : ℕ). file_line n (path_text cut.path)) size)
    (append_cancel_left (bundle_text (records_made cut.before)) (own ++ cut.held) text both)

-- ---- what was made of the node's text

-- all of it, or a front of it
none_made : (made : List Made) (records : List Record) → made ≡ [] → HasFirst made records
none_made made records e = record { more = records; are = sym (ap (λ (l : List Made). records_made l ++ records) e) }

link_first : (made : List Made) (path : List (List ℕ)) (records : List Record) → HasFirstLink made path records → HasFirst made records
link_first made path records h = record { more = link path h.target ∷ h.more; are = h.are }

bad_first : (made : List Made) (records : List Record) → HasFirstBad made records → HasFirst made records
bad_first made records h = record { more = h.next ∷ h.more; are = h.are }

begun_made : (made : List Made) (stage : Stage) (records : List Record) → HasBegun made stage records → IsFrontMade made records
begun_made made (stages.Waiting held) records h = absurd h
begun_made made (stages.Told terminal held) records h = absurd h
begun_made made stages.File records h = absurd h
begun_made made (stages.Line line) records h = inl h
begun_made made (stages.Content left) records h = inr (left, h)
begun_made made (stages.Link size path) records h = inl (link_first made path records h)
begun_made made (stages.Bad line) records h = inl (bad_first made records h)
begun_made made (stages.Unended byte) records h = absurd h

text_at : (q : QueryParts) (d x : Dag) → q.scope ≡ scopes.All → lookup_path q.path d ≡ found x → answer q d ≡ Some (all_text x)
text_at q d x all is = ap (answer_at q) is ∙ ap (λ (scope : Scope). Some (node_text scope q.span x)) all

front_at : (q : QueryParts) (d x : Dag) (made : List Made) (stage : Stage) (unread : List ℕ) → q.scope ≡ scopes.All → lookup_path q.path d ≡ found x
    → IsFrontOfAnswer (text_read made stage ++ unread) (answer q d) → (rest : List ℕ) × (text_read made stage ++ rest ≡ all_text x)
front_at q d x made stage unread all is h =
    let (rest, e) = subst (IsFrontOfAnswer (text_read made stage ++ unread)) (text_at q d x all is) h in
    (unread ++ rest, sym (e ∙ append_assoc (text_read made stage) unread rest))

module _ (answers : AnswersHaveRecords) (proper : RecordsAreProper) (front : FrontIsMade) (alone : FileIsMade) where
  begun : (x : Dag) (made : List Made) (stage : Stage) (rest : List ℕ) (t : Terminal) → IsGood x → IsAtStage made stage → IsOfBundle stage
      → Some terminals.Directory ≡ Some t → IsOfKind x t → text_read made stage ++ rest ≡ all_text x → HasBegun made stage (records_of [] x)
  begun x made stage rest t good at of told kind e =
      front made stage (records_of [] x) rest (proper x [] good.0 (All-nil (λ name. name ≢ [])) good.1) at of
      (e ∙ answers x good.0 (directory_is x (kind_is x terminals.Directory t told kind)))

  whole_at : (x : Dag) (made : List Made) (stage : Stage) (t : Terminal) → IsGood x → IsAtStage made stage → kind_of stage ≡ Some t → IsOfKind x t
      → IsRead stage → (IsStuck stage → ⊥) → text_read made stage ≡ all_text x → IsAllMade made (records_of [] x)
  whole_at x made (stages.Waiting held) t good at told kind came stuck e = none_is t told
  whole_at x made (stages.Told terminal held) t good at told kind came stuck e = absurd came
  whole_at x made stages.File t good at told kind came stuck e =
      ap records_made (alone made at)
      ∙ (ap (λ (bytes : List ℕ). file [] bytes ∷ []) e ∙ sym (file_records x (kind_is x terminals.File t told kind)))
  whole_at x made (stages.Line line) t good at told kind came stuck e =
      let is = begun x made (stages.Line line) [] t good at tt told kind (append-nil (text_read made (stages.Line line)) ∙ e) in
      line_whole made line (records_of [] x) at.no_end is (e ∙ answers x good.0 (directory_is x (kind_is x terminals.Directory t told kind)))
  whole_at x made (stages.Content left) t good at told kind came stuck e =
      let is = begun x made (stages.Content left) [] t good at tt told kind (append-nil (text_read made (stages.Content left)) ∙ e) in
      absurd (content_short made left (records_of [] x) is (e ∙ answers x good.0 (directory_is x (kind_is x terminals.Directory t told kind))))
  whole_at x made (stages.Link size path) t good at told kind came stuck e = absurd (stuck (inl tt))
  whole_at x made (stages.Bad line) t good at told kind came stuck e = absurd (stuck (inr tt))
  whole_at x made (stages.Unended byte) t good at told kind came stuck e = absurd (stuck (inr tt))

  front_of : (x : Dag) (made : List Made) (stage : Stage) (rest : List ℕ) (t : Terminal) → IsGood x → IsAtStage made stage → kind_of stage ≡ Some t
      → IsOfKind x t → text_read made stage ++ rest ≡ all_text x → IsFrontMade made (records_of [] x)
  front_of x made (stages.Waiting held) rest t good at told kind e = none_is t told
  front_of x made (stages.Told terminal held) rest t good at told kind e = inl (none_made made (records_of [] x) at)
  front_of x made stages.File rest t good at told kind e =
      let held = text_read made stages.File in
      inr (
        length rest,
        record {
          before = [];
          path = [];
          held = held;
          last = rest;
          more = [];
          made_is = alone made at;
          are = file_records x (kind_is x terminals.File t told kind) ∙ ap (λ (bytes : List ℕ). file [] bytes ∷ []) (sym e);
          amount = refl;
        },
      )
  front_of x made (stages.Line line) rest t good at told kind e =
      begun_made made (stages.Line line) (records_of [] x) (begun x made (stages.Line line) rest t good at tt told kind e)
  front_of x made (stages.Content left) rest t good at told kind e =
      begun_made made (stages.Content left) (records_of [] x) (begun x made (stages.Content left) rest t good at tt told kind e)
  front_of x made (stages.Link size path) rest t good at told kind e =
      begun_made made (stages.Link size path) (records_of [] x) (begun x made (stages.Link size path) rest t good at tt told kind e)
  front_of x made (stages.Bad line) rest t good at told kind e =
      begun_made made (stages.Bad line) (records_of [] x) (begun x made (stages.Bad line) rest t good at tt told kind e)
  front_of x made (stages.Unended byte) rest t good at told kind e =
      begun_made made (stages.Unended byte) (records_of [] x) (begun x made (stages.Unended byte) rest t good at tt told kind e)

  told_link_of : (x : Dag) (made : List Made) (terminal : Terminal) (held : List ℕ) → made ≡ [] → IsOfKind x terminal
      → IfSome (link_at (stages.Told terminal held)) (λ path. HasFirstLink made path (records_of [] x))
  told_link_of x made terminals.File held none kind = tt
  told_link_of x made terminals.Directory held none kind = tt
  told_link_of x made terminals.Symlink held none kind = record {
    target = all_text x;
    more = [];
    are = link_records x kind ∙ sym (ap (λ (l : List Made). records_made l ++ link [] (all_text x) ∷ []) none);
  }

  link_of : (x : Dag) (made : List Made) (stage : Stage) (rest : List ℕ) (t : Terminal) → IsGood x → IsAtStage made stage → kind_of stage ≡ Some t
      → IsOfKind x t → text_read made stage ++ rest ≡ all_text x → IfSome (link_at stage) (λ path. HasFirstLink made path (records_of [] x))
  link_of x made (stages.Waiting held) rest t good at told kind e = tt
  link_of x made (stages.Told terminal held) rest t good at told kind e = told_link_of x made terminal held at (kind_is x terminal t told kind)
  link_of x made stages.File rest t good at told kind e = tt
  link_of x made (stages.Line line) rest t good at told kind e = tt
  link_of x made (stages.Content left) rest t good at told kind e = tt
  link_of x made (stages.Link size path) rest t good at told kind e = begun x made (stages.Link size path) rest t good at tt told kind e
  link_of x made (stages.Bad line) rest t good at told kind e = tt
  link_of x made (stages.Unended byte) rest t good at told kind e = tt

  bad_of : (x : Dag) (made : List Made) (stage : Stage) (rest : List ℕ) (t : Terminal) → IsGood x → IsAtStage made stage → kind_of stage ≡ Some t
      → IsOfKind x t → text_read made stage ++ rest ≡ all_text x → IsBad stage → HasFirstBad made (records_of [] x)
  bad_of x made (stages.Waiting held) rest t good at told kind e bad = absurd bad
  bad_of x made (stages.Told terminal held) rest t good at told kind e bad = absurd bad
  bad_of x made stages.File rest t good at told kind e bad = absurd bad
  bad_of x made (stages.Line line) rest t good at told kind e bad = absurd bad
  bad_of x made (stages.Content left) rest t good at told kind e bad = absurd bad
  bad_of x made (stages.Link size path) rest t good at told kind e bad = absurd bad
  bad_of x made (stages.Bad line) rest t good at told kind e bad = begun x made (stages.Bad line) rest t good at tt told kind e
  bad_of x made (stages.Unended byte) rest t good at told kind e bad = absurd (begun x made (stages.Unended byte) rest t good at tt told kind e)

  pub whole_answers : WholeAnswers
  whole_answers q d made stage t sound counted all at told leads came stuck e =
      let (x, is, kind) = leads in
      let good = led_good q.path 0 d x (sound, counted) is in
      let text : text_read made stage ≡ all_text x = cc (sym e ∙ text_at q d x all is) in
      (x, is, whole_at x made stage t good at told kind came stuck text)

  pub front_answers : FrontAnswers
  front_answers q d made stage unread t sound counted all at told leads h =
      let (x, is, kind) = leads in
      let good = led_good q.path 0 d x (sound, counted) is in
      let (rest, e) = front_at q d x made stage unread all is h in
      (x, is, front_of x made stage rest t good at told kind e)

  some_at : (q : QueryParts) (d x : Dag) (made : List Made) (o : Option (List (List ℕ))) → lookup_path q.path d ≡ found x
      → IfSome o (λ path. HasFirstLink made path (records_of [] x)) → IfSome o (λ path. MadeAt q d (HasFirstLink made path))
  some_at q d x made None is h = tt
  some_at q d x made (Some path) is h = (x, is, h)

  pub link_answers : LinkAnswers
  link_answers q d made stage unread t sound counted all at told leads h =
      let (x, is, kind) = leads in
      let good = led_good q.path 0 d x (sound, counted) is in
      let (rest, e) = front_at q d x made stage unread all is h in
      some_at q d x made (link_at stage) is (link_of x made stage rest t good at told kind e)

  pub bad_answers : BadAnswers
  bad_answers q d made stage unread t sound counted all at told leads h bad =
      let (x, is, kind) = leads in
      let good = led_good q.path 0 d x (sound, counted) is in
      let (rest, e) = front_at q d x made stage unread all is h in
      (x, is, bad_of x made stage rest t good at told kind e bad)

-- ---- trees

-- each of what was made has its record, which for the last of a front may have more bytes
all_recorded : (made : List Made) → All (λ m. Contains (records_made made) (record_made m)) made
all_recorded [] = All-nil (λ (m : Made). Contains [] (record_made m))
all_recorded (one ∷ made) =
    let all = records_made (one ∷ made) in
    All-cons (λ (m : Made). Contains all (record_made m)) one made
    (Contains-append_left (record_made one ∷ []) (records_made made) (record_made one) (Contains-push [] (record_made one)))
    (All-weaker (λ (m : Made). Contains (records_made made) (record_made m)) (λ (m : Made). Contains all (record_made m))
    (λ m h. Contains-append_right (record_made one ∷ []) (records_made made) (record_made m) h) made (all_recorded made))

abbrev StandsIn : List Record → Made → Type 0
StandsIn records (makes.Folder path) = Contains records (folder path)
StandsIn records (makes.File path bytes) = (rest : List ℕ) × Contains records (file path (bytes ++ rest))

stands : (records : List Record) (m : Made) → Contains records (record_made m) → StandsIn records m
stands records (makes.Folder path) h = h
stands records (makes.File path bytes) h = ([], subst (λ (b : List ℕ). Contains records (file path b)) (sym (append-nil bytes)) h)

stands_first : (made : List Made) (records more : List Record) (m : Made) → records ≡ records_made made ++ more → Contains made m → StandsIn records m
stands_first made records more m are c =
    stands records m
    (subst (λ (l : List Record). Contains l (record_made m)) (sym are)
    (Contains-append_left (records_made made) more (record_made m)
    (All-contains (λ (n : Made). Contains (records_made made) (record_made n)) made m (all_recorded made) c)))

stands_front : (made : List Made) (records : List Record) (m : Made) → IsFrontMade made records → Contains made m → StandsIn records m
stands_front made records m (inl first) c = stands_first made records first.more m first.are c
stands_front made records m (inr (left, cut)) c =
    let last = file cut.path (cut.held ++ cut.last) in
    elim (Contains-push_cases cut.before (makes.File cut.path cut.held) m (subst (λ (l : List Made). Contains l m) cut.made_is c)) [
      | inl b ↦ stands_first cut.before records (last ∷ cut.more) m cut.are b
      | inr e ↦
          let there : StandsIn records (makes.File cut.path cut.held) = (
            cut.last,
            subst (λ (l : List Record). Contains l last) (sym cut.are)
                (Contains-append_right (records_made cut.before) (last ∷ cut.more) last
                (Contains-append_left (last ∷ []) cut.more last (Contains-push [] last))),
          ) in
          subst (StandsIn records) e there
    ]

pub whole_trees : RecordsAreTree → WholeTrees
whole_trees trees d tree made shows all = subst (λ (l : List Record). AreRecordsOf l tree) (sym all) (trees d tree shows)

pub front_trees : RecordsAreTree → FrontTrees
front_trees trees d tree made shows h =
    let are = trees d tree shows in
    record {
      folders = λ path c. (are.folders path).0 (stands_front made (records_of [] d) (makes.Folder path) h c);
      files = λ path bytes c.
          let (rest, there) = stands_front made (records_of [] d) (makes.File path bytes) h c in
          (rest, (are.files path (bytes ++ rest)).0 there);
    }
