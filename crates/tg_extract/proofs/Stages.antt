-- The text that was read, stage by stage.
use Rattle.std.proofs.Common.{IfSome, None, Option, Some, All, List, [], inl, inr, ap, ap₂, append_assoc, append-nil, arith, get_or, length, refl, subst, sym, take}
use Rattle.std.proofs.Common.{ℕ, ◌+◌, ◌++◌, ◌-◌, ◌<◌, ◌^◌, ◌∙◌, ◌∷◌, ◌≡◌, ◌≢◌, ◌≤◌}
use Rattle.std.proofs.lemmas.List.{length-append, map-append, take_at}
use Rattle.std.proofs.lemmas.List.Concat.{flat_map-append}
use Rattle.std.proofs.lemmas.List.Elements.{All-append, All-cons, All-head, All-nil, All-push, All-tail, All-weaker}
use Rattle.std.specs.Prelude.{decimal}
use Rattle.tg_bundles.specs.Reading.{BundlesDiffer, EscapedIsPlain, FrontsAreFiles, FrontsAreLinks, FrontsAreRecords, IsProper, path_of}
use Rattle.tg_bundles.specs.Records.{Record, bundle_text, file, folder, link, path_text, record_text}
use Rattle.tg_bytes.specs.Ascii.{line_feed, space}
use Rattle.tg_bytes.specs.Lists.{same_front}
use Rattle.tg_extract.proofs.LineTexts.{bare, line_ends}
use Rattle.tg_extract.proofs.Paths.{not_empty, path_line}
use Rattle.tg_extract.proofs.Sizes.{no_feed}
use Rattle.tg_extract.specs.Extracts.{EndsLine, ExtractState, Extracts, Grows, HasMadeLine, HasMadeText, IsAtBad, IsAtContent, IsAtLine, IsAtLink, IsStoppedAt, IsTreeCause}
use Rattle.tg_extract.specs.Extracts.{IsAtStage, IsGoodRecord, bytes_made, kind_of, made_text, open_text, record_made, records_made, text_of, text_read}
use Rattle.tg_extract.specs.Laws.{FileIsMade, FrontIsMade, HasFirst, HasFirstBad, HasFirstBytes, HasFirstLink, WholeIsMade}
use Rattle.tg_extract.specs.Lines.{IsGoodLine, IsGoodPath, line_text}
use Rattle.tg_extract.specs.declared.extract.Stage.{Stage}
use Rattle.tg_extract.specs.declared.extract.Stage.TheVariants as stages
use Rattle.tg_extract.specs.declared.fault.ExtractFault.{ExtractFault}
use Rattle.tg_extract.specs.declared.lines.Line.{Line}
use Rattle.tg_extract.specs.declared.lines.Line.TheVariants as lines
use Rattle.tg_model.specs.Texts.{dir_line, file_line, link_line}
use Rattle.tg_new_tree.specs.NewTrees.{AddedTo, NewTreeMeaning, new_tree_step}
use Rattle.tg_new_tree.specs.declared.made.Made.{Made}
use Rattle.tg_new_tree.specs.declared.made.Made.TheVariants.{File, Folder}
use Rattle.tg_verify.specs.declared.terminal.Terminal.TheVariants as terminals

-- ---- what was made, one more at the end

abbrev text_made : List Made → List ℕ
text_made made = bundle_text (records_made made)

records_push : (old : List Made) (last : Made) → records_made (old ++ last ∷ []) ≡ records_made old ++ record_made last ∷ []
records_push old last = map-append record_made old (last ∷ [])

text_push : (old : List Made) (last : Made) → text_made (old ++ last ∷ []) ≡ text_made old ++ record_text (record_made last)
text_push old last =
    ap bundle_text (records_push old last)
    ∙ flat_map-append record_text (records_made old) (record_made last ∷ [])
    ∙ ap (λ (l : List ℕ). text_made old ++ l) (append-nil (record_text (record_made last)))

good_push : (old : List Made) (last : Made) → All IsGoodRecord (records_made old) → IsGoodRecord (record_made last) → All IsGoodRecord (records_made (old ++ last ∷ []))
good_push old last all one = subst (All IsGoodRecord) (sym (records_push old last)) (All-push IsGoodRecord (records_made old) (record_made last) all one)

open_push : (old : List Made) (last : Made) (left : ℕ) → open_text (old ++ last ∷ []) left ≡ text_made old ++ made_text last left
open_push [] last left = refl
open_push (made ∷ []) last left = ap (λ (l : List ℕ). l ++ made_text last left) (sym (append-nil (record_text (record_made made))))
open_push (made ∷ next ∷ old) last left =
    ap (λ (l : List ℕ). record_text (record_made made) ++ l) (open_push (next ∷ old) last left)
    ∙ sym (append_assoc (record_text (record_made made)) (text_made (next ∷ old)) (made_text last left))

-- ---- a first line that ended

abbrev NoFeed : List ℕ → Type 0
NoFeed text = All (λ b. b ≢ line_feed) text

-- no first line of a record is this text
abbrev NoLine : List ℕ → Type 0
NoLine text = (line : Line) → IsGoodLine line → line_text line ≢ text ++ line_feed ∷ []

pub take_line : (bytes front : List ℕ) → EndsLine bytes front → take (length front + 1) bytes ≡ front ++ line_feed ∷ []
take_line bytes front h =
    ap (take (length front + 1)) (h.whole ∙ sym (append_assoc front (line_feed ∷ []) h.rest))
    ∙ take_at (front ++ line_feed ∷ []) h.rest (length front + 1) (length-append front (line_feed ∷ []))

regroup : (a b c d : List ℕ) → a ++ ((b ++ c) ++ d) ≡ (a ++ b) ++ (c ++ d)
regroup a b c d = ap (λ (l : List ℕ). a ++ l) (append_assoc b c d) ∙ sym (append_assoc a b (c ++ d))

-- the stage, and the text that was read
abbrev pub Reaches : List Made → Stage → List ℕ → Type 0
Reaches made stage text = IsAtStage made stage × (text_read made stage ≡ text)

reaches : (made new : List Made) (stage next : Stage) (text : List ℕ) → new ≡ made → next ≡ stage → Reaches made stage text → Reaches new next text
reaches made new stage next text p q h =
    subst (λ (s : Stage). Reaches new s text) (sym q) (subst (λ (m : List Made). Reaches m stage text) (sym p) h)

folder_made : (old : List Made) (path : List (List ℕ)) (begun front : List ℕ) → All IsGoodRecord (records_made old) → IsGoodPath path
    → dir_line (path_text path) ≡ (begun ++ front) ++ line_feed ∷ []
    → Reaches (old ++ Folder path ∷ []) (stages.Line []) ((text_made old ++ begun) ++ (front ++ line_feed ∷ []))
folder_made old path begun front all good is = (
  record { no_end = All-nil (λ (b : ℕ). b ≢ line_feed); good = good_push old (Folder path) all (record { path = good; size = omega arith }) },
  append-nil (text_made (old ++ Folder path ∷ [])) ∙ text_push old (Folder path) ∙ ap (λ (l : List ℕ). text_made old ++ l) is
      ∙ regroup (text_made old) begun front (line_feed ∷ []),
)

file_made : (old : List Made) (size : ℕ) (path : List (List ℕ)) (begun front : List ℕ) → All IsGoodRecord (records_made old) → IsGoodPath path → size < 10 ^ 19
    → file_line size (path_text path) ≡ (begun ++ front) ++ line_feed ∷ []
    → Reaches (old ++ File path [] ∷ []) (stages.Content size) ((text_made old ++ begun) ++ (front ++ line_feed ∷ []))
file_made old size path begun front all good small is =
    let amount : length {A = ℕ} [] + size ≡ size = omega arith in (
      record { before = old; path = path; held = []; is = refl; good = all; good_path = good; small = omega (arith, small) },
      open_push old (File path []) size
          ∙ ap (λ (l : List ℕ). text_made old ++ l)
          (append-nil (file_line (length {A = ℕ} [] + size) (path_text path)) ∙ ap (λ (n : ℕ). file_line n (path_text path)) amount ∙ is)
          ∙ regroup (text_made old) begun front (line_feed ∷ []),
    )

-- a link's first line makes nothing
link_next : (old : List Made) (size : ℕ) (path : List (List ℕ)) (begun front : List ℕ) → All IsGoodRecord (records_made old) → IsGoodPath path → size < 10 ^ 19
    → link_line size (path_text path) ≡ (begun ++ front) ++ line_feed ∷ []
    → Reaches old (stages.Link size path) ((text_made old ++ begun) ++ (front ++ line_feed ∷ []))
link_next old size path begun front all good small is = (
  record { good = all; good_path = good; small = small },
  ap (λ (l : List ℕ). text_made old ++ l) is ∙ regroup (text_made old) begun front (line_feed ∷ []),
)

-- and so does another line
bad_next : (old : List Made) (begun front : List ℕ) → IsAtLine old begun → NoFeed front → NoLine (begun ++ front)
    → Reaches old (stages.Bad ((begun ++ front) ++ line_feed ∷ [])) ((text_made old ++ begun) ++ (front ++ line_feed ∷ []))
bad_next old begun front at none bad = (
  record { good = at.good; front = begun ++ front; is = refl; no_end = All-append (λ (b : ℕ). b ≢ line_feed) begun front at.no_end none; none = bad },
  regroup (text_made old) begun front (line_feed ∷ []),
)

by_line : (line : Line) (old new : List Made) (stage : Stage) (begun front : List ℕ) → All IsGoodRecord (records_made old) → IsGoodLine line
    → line_text line ≡ (begun ++ front) ++ line_feed ∷ [] → HasMadeLine line old new stage
    → Reaches new stage ((text_made old ++ begun) ++ (front ++ line_feed ∷ []))
by_line (lines.Folder path) old new stage begun front all good is h =
    reaches (old ++ Folder path ∷ []) new (stages.Line []) stage ((text_made old ++ begun) ++ (front ++ line_feed ∷ [])) h.0 h.1 (folder_made old path begun front all good is)
by_line (lines.File size path) old new stage begun front all good is h =
    reaches (old ++ File path [] ∷ []) new (stages.Content size) stage ((text_made old ++ begun) ++ (front ++ line_feed ∷ [])) h.0 h.1
    (file_made old size path begun front all good.0 good.1 is)
by_line (lines.Link size path) old new stage begun front all good is h =
    reaches old new (stages.Link size path) stage ((text_made old ++ begun) ++ (front ++ line_feed ∷ [])) h.0 h.1 (link_next old size path begun front all good.0 good.1 is)

by_text : (old new : List Made) (stage : Stage) (begun front : List ℕ) → IsAtLine old begun → NoFeed front → HasMadeText (begun ++ front) old new stage
    → Reaches new stage ((text_made old ++ begun) ++ (front ++ line_feed ∷ []))
by_text old new stage begun front at none (inl h) = by_line h.line old new stage begun front at.good h.good h.is h.made
by_text old new stage begun front at none (inr h) =
    reaches old new (stages.Bad ((begun ++ front) ++ line_feed ∷ [])) stage ((text_made old ++ begun) ++ (front ++ line_feed ∷ [])) h.same h.stage_is
    (bad_next old begun front at none h.none)

line_made : (old new : List Made) (stage : Stage) (begun bytes front : List ℕ) → IsAtLine old begun → EndsLine bytes front → HasMadeText (begun ++ front) old new stage
    → Reaches new stage ((text_made old ++ begun) ++ (front ++ line_feed ∷ []))
line_made old new stage begun bytes front at ends h = by_text old new stage begun front at ends.no_end h

-- ---- the bytes of a file

-- its last byte came, and the end behind it
done : (before : List Made) (path : List (List ℕ)) (held : List ℕ) → All IsGoodRecord (records_made before) → IsGoodPath path → length held + 0 < 10 ^ 19
    → Reaches (before ++ File path held ∷ []) (stages.Line []) (text_read (before ++ File path held ∷ []) (stages.Content 0) ++ line_feed ∷ [])
done before path held all good small =
    let none : length held + 0 ≡ length held = omega arith in
    let own = file_line (length held) (path_text path) in
    let was : text_read (before ++ File path held ∷ []) (stages.Content 0) ≡ text_made before ++ (own ++ held) =
    open_push before (File path held) 0 ∙ ap (λ (n : ℕ). text_made before ++ (file_line n (path_text path) ++ held)) none in (
      record { no_end = All-nil (λ (b : ℕ). b ≢ line_feed); good = good_push before (File path held) all (record { path = good; size = omega (arith, small) }) },
      append-nil (text_made (before ++ File path held ∷ [])) ∙ text_push before (File path held)
          ∙ ap (λ (l : List ℕ). text_made before ++ l) (sym (append_assoc own held (line_feed ∷ [])))
          ∙ sym (append_assoc (text_made before) (own ++ held) (line_feed ∷ []))
          ∙ ap (λ (l : List ℕ). l ++ line_feed ∷ []) (sym was),
    )

pub content_done : (made : List Made) → IsAtContent made 0 → Reaches made (stages.Line []) (text_read made (stages.Content 0) ++ line_feed ∷ [])
content_done made at =
    subst (λ (m : List Made). Reaches m (stages.Line []) (text_read m (stages.Content 0) ++ line_feed ∷ [])) (sym at.is)
    (done at.before at.path at.held at.good at.good_path at.small)

push_same : (xs ys : List Made) (x y : Made) → xs ++ x ∷ [] ≡ ys ++ y ∷ [] → (xs ≡ ys) × (x ≡ y)
push_same xs ys x y e =
    let (front, last) = same_front xs ys (x ∷ []) (y ∷ []) (omega (arith, ap length e, length-append xs (x ∷ []), length-append ys (y ∷ []))) e in
    (front, cc last)

-- more of its bytes came
more : (before : List Made) (path : List (List ℕ)) (held bytes : List ℕ) (left : ℕ) → All IsGoodRecord (records_made before) → IsGoodPath path
    → length held + left < 10 ^ 19 → length bytes ≤ left
    → Reaches (before ++ File path (held ++ bytes) ∷ []) (stages.Content (left - length bytes)) (text_read (before ++ File path held ∷ []) (stages.Content left) ++ bytes)
more before path held bytes left all good small few =
    let amount : length (held ++ bytes) + (left - length bytes) ≡ length held + left = omega (arith, length-append held bytes, few) in
    let own = file_line (length held + left) (path_text path) in (
      record { before = before; path = path; held = held ++ bytes; is = refl; good = all; good_path = good; small = omega (arith, amount, small) },
      open_push before (File path (held ++ bytes)) (left - length bytes)
          ∙ ap (λ (n : ℕ). text_made before ++ (file_line n (path_text path) ++ (held ++ bytes))) amount
          ∙ ap (λ (l : List ℕ). text_made before ++ l) (sym (append_assoc own held bytes))
          ∙ sym (append_assoc (text_made before) (own ++ held) bytes)
          ∙ ap (λ (l : List ℕ). l ++ bytes) (sym (open_push before (File path held) left)),
    )

pub content_added : (old new before : List Made) (path : List (List ℕ)) (held bytes : List ℕ) (left n : ℕ) → IsAtContent old left → old ≡ before ++ File path held ∷ []
    → new ≡ before ++ File path (held ++ bytes) ∷ [] → length bytes ≡ n → n ≤ left → Reaches new (stages.Content (left - n)) (text_read old (stages.Content left) ++ bytes)
content_added old new before path held bytes left n at was is size few =
    let both = push_same before at.before (File path held) (File at.path at.held) (sym was ∙ at.is) in
    let path_is : at.path ≡ path = cc (both.1) in
    let held_is : at.held ≡ held = cc (both.1) in
    let small : length held + left < 10 ^ 19 = subst (λ (l : List ℕ). length l + left < 10 ^ 19) held_is at.small in
    let good : IsGoodPath path = subst IsGoodPath path_is at.good_path in
    let all : All IsGoodRecord (records_made before) = subst (λ (b : List Made). All IsGoodRecord (records_made b)) (sym both.0) at.good in
    let base = more before path held bytes left all good small (omega (arith, size, few)) in
    subst (λ (k : ℕ). Reaches new (stages.Content (left - k)) (text_read old (stages.Content left) ++ bytes)) size
    (subst (λ (o : List Made). Reaches new (stages.Content (left - length bytes)) (text_read o (stages.Content left) ++ bytes)) (sym was)
    (subst (λ (m : List Made). Reaches m (stages.Content (left - length bytes)) (text_read (before ++ File path held ∷ []) (stages.Content left) ++ bytes)) (sym is) base))

-- ---- lines that are no first line of a record

good_proper : (entry : Record) → IsGoodRecord entry → IsProper entry
good_proper entry h = record { names = not_empty (path_of entry) h.path.good; size = omega (arith, h.size) }

all_proper : (records : List Record) → All IsGoodRecord records → All IsProper records
all_proper records = All-weaker IsGoodRecord IsProper good_proper records

-- the first line of a record, and what stands behind it
abbrev line_of : Record → Line
line_of (folder path) = lines.Folder path
line_of (file path bytes) = lines.File (length bytes) path
line_of (link path target) = lines.Link (length target) path

abbrev behind_line : Record → List ℕ
behind_line (folder path) = []
behind_line (file path bytes) = bytes ++ line_feed ∷ []
behind_line (link path target) = target ++ line_feed ∷ []

record_is : (entry : Record) → record_text entry ≡ line_text (line_of entry) ++ behind_line entry
record_is (folder path) = sym (append-nil (dir_line (path_text path)))
record_is (file path bytes) = refl
record_is (link path target) = refl

good_line : (entry : Record) → IsGoodRecord entry → IsGoodLine (line_of entry)
good_line (folder path) h = h.path
good_line (file path bytes) h = (h.path, h.size)
good_line (link path target) h = (h.path, h.size)

letter : (b : ℕ) (text : List ℕ) → b ≢ line_feed → NoFeed text → NoFeed (b ∷ text)
letter b text other rest = All-cons (λ (b : ℕ). b ≢ line_feed) b text other rest

sized_line : EscapedIsPlain → (size : ℕ) (path : List (List ℕ)) → IsGoodPath path → size < 10 ^ 19 → NoFeed (decimal size ++ space ∷ path_text path)
sized_line plain size path good small =
    All-append (λ (b : ℕ). b ≢ line_feed) (decimal size) (space ∷ path_text path) (no_feed size small)
    (letter space (path_text path) (λ e. omega (arith, e)) (path_line plain path (not_empty path good.good)))

bare_line : EscapedIsPlain → (line : Line) → IsGoodLine line → NoFeed (bare line)
bare_line plain (lines.Folder path) good =
    letter 100 (105 ∷ 114 ∷ 32 ∷ path_text path) (λ e. omega (arith, e)) (letter 105 (114 ∷ 32 ∷ path_text path) (λ e. omega (arith, e))
    (letter 114 (32 ∷ path_text path) (λ e. omega (arith, e)) (letter 32 (path_text path) (λ e. omega (arith, e)) (path_line plain path (not_empty path good.good)))))
bare_line plain (lines.File size path) good =
    let own = decimal size ++ space ∷ path_text path in
    letter 102 (105 ∷ 108 ∷ 101 ∷ 32 ∷ own) (λ e. omega (arith, e)) (letter 105 (108 ∷ 101 ∷ 32 ∷ own) (λ e. omega (arith, e))
    (letter 108 (101 ∷ 32 ∷ own) (λ e. omega (arith, e)) (letter 101 (32 ∷ own) (λ e. omega (arith, e)) (letter 32 own (λ e. omega (arith, e))
    (sized_line plain size path good.0 good.1)))))
bare_line plain (lines.Link size path) good =
    let own = decimal size ++ space ∷ path_text path in
    letter 108 (105 ∷ 110 ∷ 107 ∷ 32 ∷ own) (λ e. omega (arith, e)) (letter 105 (110 ∷ 107 ∷ 32 ∷ own) (λ e. omega (arith, e))
    (letter 110 (107 ∷ 32 ∷ own) (λ e. omega (arith, e)) (letter 107 (32 ∷ own) (λ e. omega (arith, e)) (letter 32 own (λ e. omega (arith, e))
    (sized_line plain size path good.0 good.1)))))

-- what stands before the first mark is the same
up_to_mark : (mark : ℕ) (a b u v : List ℕ) → All (λ c. c ≢ mark) a → All (λ c. c ≢ mark) b → a ++ mark ∷ u ≡ b ++ mark ∷ v → a ≡ b
up_to_mark mark [] [] u v p q e = refl
up_to_mark mark [] (y ∷ b) u v p q e =
    let same : mark ≡ y = cc e in
    absurd (All-head (λ (c : ℕ). c ≢ mark) y b q (sym same))
up_to_mark mark (x ∷ a) [] u v p q e =
    let same : x ≡ mark = cc e in
    absurd (All-head (λ (c : ℕ). c ≢ mark) x a p same)
up_to_mark mark (x ∷ a) (y ∷ b) u v p q e =
    let same : x ≡ y = cc e in
    let rest : a ++ mark ∷ u ≡ b ++ mark ∷ v = cc e in
    ap₂ (λ (c : ℕ) (l : List ℕ). c ∷ l) same
    (up_to_mark mark a b u v (All-tail (λ (c : ℕ). c ≢ mark) x a p) (All-tail (λ (c : ℕ). c ≢ mark) y b q) rest)

no_first : EscapedIsPlain → (text behind : List ℕ) (entry : Record) (records : List Record) → NoFeed text → NoLine text
    → text ++ line_feed ∷ behind ≡ bundle_text (entry ∷ records) → IsGoodRecord entry → ⊥
no_first plain text behind entry records none bad e own =
    let good = good_line entry own in
    let line = line_of entry in
    let after = behind_line entry ++ bundle_text records in
    let whole : text ++ line_feed ∷ behind ≡ bare line ++ line_feed ∷ after =
    e ∙ ap (λ (l : List ℕ). l ++ bundle_text records) (record_is entry ∙ ap (λ (l : List ℕ). l ++ behind_line entry) (sym (line_ends line)))
    ∙ append_assoc (bare line ++ line_feed ∷ []) (behind_line entry) (bundle_text records)
    ∙ append_assoc (bare line) (line_feed ∷ []) after
    in
    let same : text ≡ bare line = up_to_mark line_feed text (bare line) behind after none (bare_line plain line good) whole in
    bad line good (sym (line_ends line) ∙ ap (λ (l : List ℕ). l ++ line_feed ∷ []) (sym same))

-- ---- what becomes of an extract

abbrev stage_text : {S : Type 0} → NewTreeMeaning S → S → Stage → List ℕ
stage_text m tree stage = text_read (m.made tree) stage

no_unread : (text unread : List ℕ) → unread ≡ [] → text ++ unread ≡ text
no_unread text unread none = ap (λ (l : List ℕ). text ++ l) none ∙ append-nil text

-- what is known of an extract that goes on, before and after
pub record GoesOn {S : Type 0} (old new : ExtractState S) : Type 0 where
  pub none : old.unread ≡ []
  pub still : new.unread ≡ old.unread
  pub still_going : new.refused ≡ old.refused
  pub going : old.refused ≡ None
  pub calm : new.faults ≡ old.faults

read_text : {S : Type 0} (m : NewTreeMeaning S) (old new : ExtractState S) (bytes : List ℕ) → GoesOn old new
    → stage_text m new.tree new.stage ≡ stage_text m old.tree old.stage ++ bytes → text_of m new ≡ text_of m old ++ bytes
read_text m old new bytes on e =
    no_unread (stage_text m new.tree new.stage) new.unread (on.still ∙ on.none)
    ∙ e
    ∙ ap (λ (l : List ℕ). l ++ bytes) (sym (no_unread (stage_text m old.tree old.stage) old.unread on.none))

pub nothing_stopped : (refused : Option ExtractFault) (stage : Stage) → refused ≡ None → IfSome refused (IsStoppedAt stage)
nothing_stopped refused stage going = subst (λ (r : Option ExtractFault). IfSome r (IsStoppedAt stage)) (sym going) tt

-- nothing stopped it before
nothing_stays : {S : Type 0} (m : NewTreeMeaning S) (old new : ExtractState S) → old.refused ≡ None
    → IfSome old.refused (λ fault. (new.refused ≡ Some fault) × (new.tree ≡ old.tree))
nothing_stays m old new going =
    subst (λ (r : Option ExtractFault). IfSome r (λ fault. (new.refused ≡ Some fault) × (new.tree ≡ old.tree))) (sym going) tt

read_grows : {S : Type 0} (m : NewTreeMeaning S) (old new : ExtractState S) (bytes : List ℕ) → GoesOn old new
    → stage_text m new.tree new.stage ≡ stage_text m old.tree old.stage ++ bytes → m.place new.tree ≡ m.place old.tree → m.faults new.tree ≡ m.faults old.tree
    → Grows m old new bytes
read_grows m old new bytes on e place quiet =
    record {
      text = read_text m old new bytes on e;
      place = place;
      going = λ h. on.going;
      quiet = λ h. quiet;
      calm = λ h. on.calm;
      cause = λ h. subst (λ (r : Option ExtractFault). IfSome r (IsTreeCause (new_tree_step m old.tree new.tree))) (sym (on.still_going ∙ on.going)) tt;
      stays = nothing_stays m old new on.going;
    }

-- a stage that is told stays told
of_line : (line : Line) (old new : List Made) (stage : Stage) → HasMadeLine line old new stage → kind_of stage ≡ Some terminals.Directory
of_line (lines.Folder path) old new stage h = ap kind_of h.1
of_line (lines.File size path) old new stage h = ap kind_of h.1
of_line (lines.Link size path) old new stage h = ap kind_of h.1

of_text : (text : List ℕ) (old new : List Made) (stage : Stage) → HasMadeText text old new stage → kind_of stage ≡ Some terminals.Directory
of_text text old new stage (inl h) = of_line h.line old new stage h.made
of_text text old new stage (inr h) = ap kind_of h.stage_is

pub line_extracts : {S : Type 0} (m : NewTreeMeaning S) (old new : ExtractState S) (begun bytes front : List ℕ) → GoesOn old new → IsAtStage (m.made old.tree) old.stage
    → old.stage ≡ stages.Line begun → EndsLine bytes front → HasMadeText (begun ++ front) (m.made old.tree) (m.made new.tree) new.stage
    → m.place new.tree ≡ m.place old.tree → m.faults new.tree ≡ m.faults old.tree → Extracts m old new (take (length front + 1) bytes)
line_extracts m old new begun bytes front on at is ends made place quiet =
    let line : IsAtLine (m.made old.tree) begun = subst (IsAtStage (m.made old.tree)) is at in
    let next = line_made (m.made old.tree) (m.made new.tree) new.stage begun bytes front line ends made in
    record {
      grows = read_grows m old new (take (length front + 1) bytes) on
          (next.1 ∙ ap₂ (λ (x y : List ℕ). x ++ y) (ap (stage_text m old.tree) (sym is)) (sym (take_line bytes front ends))) place quiet;
      kind = of_text (begun ++ front) (m.made old.tree) (m.made new.tree) new.stage made ∙ sym (ap kind_of is);
    }

pub line_stage : {S : Type 0} (m : NewTreeMeaning S) (tree new : S) (stage next : Stage) (begun bytes front : List ℕ) → IsAtStage (m.made tree) stage
    → stage ≡ stages.Line begun → EndsLine bytes front → HasMadeText (begun ++ front) (m.made tree) (m.made new) next → IsAtStage (m.made new) next
line_stage m tree new stage next begun bytes front at is ends made =
    (line_made (m.made tree) (m.made new) next begun bytes front (subst (IsAtStage (m.made tree)) is at) ends made).0

pub end_extracts : {S : Type 0} (m : NewTreeMeaning S) (old new : ExtractState S) (bytes : List ℕ) → GoesOn old new → IsAtStage (m.made old.tree) old.stage
    → old.stage ≡ stages.Content 0 → new.tree ≡ old.tree → new.stage ≡ stages.Line [] → bytes ≡ line_feed ∷ [] → Extracts m old new bytes
end_extracts {S = S} m old new bytes on at is tree stage one =
    let next = content_done (m.made old.tree) (subst (IsAtStage (m.made old.tree)) is at) in
    record {
      grows = read_grows m old new bytes on
          (ap₂ (λ (t : S) (s : Stage). stage_text m t s) tree stage ∙ next.1 ∙ ap₂ (λ (x y : List ℕ). x ++ y) (ap (stage_text m old.tree) (sym is)) (sym one))
          (ap m.place tree) (ap m.faults tree);
      kind = ap kind_of stage ∙ sym (ap kind_of is);
    }

pub end_stage : {S : Type 0} (m : NewTreeMeaning S) (tree : S) (stage : Stage) → IsAtStage (m.made tree) stage → stage ≡ stages.Content 0 → IsAtLine (m.made tree) []
end_stage m tree stage at is = (content_done (m.made tree) (subst (IsAtStage (m.made tree)) is at)).0

pub added_extracts : {S : Type 0} (m : NewTreeMeaning S) (old new : ExtractState S) (bytes : List ℕ) (left n : ℕ) → GoesOn old new → IsAtStage (m.made old.tree) old.stage
    → old.stage ≡ stages.Content left → AddedTo bytes (new_tree_step m old.tree new.tree) → length bytes ≡ n → n ≤ left → new.stage ≡ stages.Content (left - n)
    → m.faults new.tree ≡ m.faults old.tree → Extracts m old new bytes
added_extracts m old new bytes left n on at is added size few stage quiet =
    let next =
    content_added (m.made old.tree) (m.made new.tree) added.before added.path added.held bytes left n (subst (IsAtStage (m.made old.tree)) is at) added.old added.new size few
    in
    record {
      grows = read_grows m old new bytes on (ap (stage_text m new.tree) stage ∙ next.1 ∙ ap (λ (s : Stage). stage_text m old.tree s ++ bytes) (sym is)) added.place quiet;
      kind = ap kind_of stage ∙ sym (ap kind_of is);
    }

pub added_stage : {S : Type 0} (m : NewTreeMeaning S) (tree new : S) (stage : Stage) (bytes : List ℕ) (left n : ℕ) → IsAtStage (m.made tree) stage
    → stage ≡ stages.Content left → AddedTo bytes (new_tree_step m tree new) → length bytes ≡ n → n ≤ left → IsAtContent (m.made new) (left - n)
added_stage m tree new stage bytes left n at is added size few =
    (content_added (m.made tree) (m.made new) added.before added.path added.held bytes left n (subst (IsAtStage (m.made tree)) is at) added.old added.new size few).0

pub take_end : (bytes : List ℕ) (b : ℕ) → 0 < length bytes → b ≡ get_or bytes 0 b → b ≡ line_feed → take 1 bytes ≡ line_feed ∷ []
take_end [] b some is end = absurd (omega (arith, some))
take_end (x ∷ bytes) b some is end = ap (λ (n : ℕ). n ∷ []) (sym is ∙ end)

-- ---- what was made of a bundle

whole_line : BundlesDiffer → (made : List Made) (line : List ℕ) (records : List Record) → All IsProper records → IsAtLine made line → line ≡ []
    → text_made made ++ line ≡ bundle_text records → records_made made ≡ records
whole_line law made line records all at none e =
    law (records_made made) records (all_proper (records_made made) at.good) all
    (sym (append-nil (text_made made)) ∙ ap (λ (l : List ℕ). text_made made ++ l) (sym none) ∙ e)

pub whole_is_made : BundlesDiffer → WholeIsMade
whole_is_made law made (stages.Waiting held) records all at of whole e = absurd of
whole_is_made law made (stages.Told terminal held) records all at of whole e = absurd of
whole_is_made law made stages.File records all at of whole e = absurd of
whole_is_made law made (stages.Line line) records all at of whole e = whole_line law made line records all at whole e
whole_is_made law made (stages.Content left) records all at of whole e = absurd whole
whole_is_made law made (stages.Link size path) records all at of whole e = absurd whole
whole_is_made law made (stages.Bad line) records all at of whole e = absurd whole
whole_is_made law made (stages.Unended byte) records all at of whole e = absurd whole

front_line : FrontsAreRecords → (made : List Made) (line rest : List ℕ) (records : List Record) → All IsProper records → IsAtLine made line
    → (text_made made ++ line) ++ rest ≡ bundle_text records → HasFirst made records
front_line law made line rest records all at e =
    let (more, are, left) =
    law (records_made made) records (line ++ rest) (all_proper (records_made made) at.good) all (sym (append_assoc (text_made made) line rest) ∙ e)
    in
    record { more = more; are = are }

-- what stands behind the bytes of a file that came
content_front : FrontsAreFiles → (made : List Made) (left : ℕ) (rest : List ℕ) (records : List Record) → All IsProper records → (at : IsAtContent made left)
    → open_text made left ++ rest ≡ bundle_text records
    → (last : List ℕ) × (more : List Record) × (records ≡ records_made at.before ++ file at.path (at.held ++ last) ∷ more) × (length last ≡ left)
    × (rest ≡ last ++ line_feed ∷ bundle_text more)
content_front law made left rest records all at e =
    let own = file_line (length at.held + left) (path_text at.path) in
    let whole : text_made at.before ++ (own ++ (at.held ++ rest)) ≡ bundle_text records =
    ap (λ (l : List ℕ). text_made at.before ++ l) (sym (append_assoc own at.held rest))
    ∙ sym (append_assoc (text_made at.before) (own ++ at.held) rest)
    ∙ ap (λ (l : List ℕ). l ++ rest) (sym (open_push at.before (File at.path at.held) left))
    ∙ ap (λ (m : List Made). open_text m left ++ rest) (sym at.is)
    ∙ e
    in
    law (records_made at.before) records at.path at.held rest left (all_proper (records_made at.before) at.good) all (not_empty at.path at.good_path.good)
    (omega (arith, at.small)) whole

front_content : FrontsAreFiles → (made : List Made) (left : ℕ) (rest : List ℕ) (records : List Record) → All IsProper records → IsAtContent made left
    → open_text made left ++ rest ≡ bundle_text records → HasFirstBytes made left records
front_content law made left rest records all at e =
    let (last, more, are, amount, behind) = content_front law made left rest records all at e in
    record { before = at.before; path = at.path; held = at.held; last = last; more = more; made_is = at.is; are = are; amount = amount }

front_link : FrontsAreLinks → (made : List Made) (size : ℕ) (path : List (List ℕ)) (rest : List ℕ) (records : List Record) → All IsProper records
    → IsAtLink made size path → (text_made made ++ link_line size (path_text path)) ++ rest ≡ bundle_text records → HasFirstLink made path records
front_link law made size path rest records all at e =
    let (target, more, are, amount, behind) =
    law (records_made made) records path rest size (all_proper (records_made made) at.good) all (not_empty path at.good_path.good) (omega (arith, at.small))
    (sym (append_assoc (text_made made) (link_line size (path_text path)) rest) ∙ e)
    in
    record { target = target; more = more; are = are }

-- a line that ended is the first line of the next record, which isn't good
begins_bad : EscapedIsPlain → (made : List Made) (text behind : List ℕ) (records more : List Record) → NoFeed text → NoLine text
    → records ≡ records_made made ++ more → text ++ line_feed ∷ behind ≡ bundle_text more → HasFirstBad made records
begins_bad plain made text behind records [] none bad are e = absurd (omega (arith, ap length e, length-append text (line_feed ∷ behind)))
begins_bad plain made text behind records (entry ∷ more) none bad are e =
    record { next = entry; more = more; are = are; bad = no_first plain text behind entry more none bad e }

front_bad : EscapedIsPlain → FrontsAreRecords → (made : List Made) (line rest : List ℕ) (records : List Record) → All IsProper records → IsAtBad made line
    → (text_made made ++ line) ++ rest ≡ bundle_text records → HasFirstBad made records
front_bad plain law made line rest records all at e =
    let (more, are, left) =
    law (records_made made) records (line ++ rest) (all_proper (records_made made) at.good) all (sym (append_assoc (text_made made) line rest) ∙ e)
    in
    begins_bad plain made at.front rest records more at.no_end (λ other good is. at.none other good (is ∙ sym at.is)) are
    (sym (append_assoc at.front (line_feed ∷ []) rest) ∙ ap (λ (l : List ℕ). l ++ rest) (sym at.is) ∙ left)

-- behind a file's bytes stands an end
ends_here : (last rest behind : List ℕ) (b : ℕ) → length last ≡ 0 → b ∷ rest ≡ last ++ line_feed ∷ behind → b ≡ line_feed
ends_here [] rest behind b none e = cc e
ends_here (x ∷ last) rest behind b none e = absurd (omega (arith, none))

front_unended : FrontsAreFiles → (made : List Made) (b : ℕ) (rest : List ℕ) (records : List Record) → All IsProper records → IsAtContent made 0
    → (open_text made 0 ++ b ∷ []) ++ rest ≡ bundle_text records → b ≡ line_feed
front_unended law made b rest records all at e =
    let (last, more, are, none, behind) = content_front law made 0 (b ∷ rest) records all at (sym (append_assoc (open_text made 0) (b ∷ []) rest) ∙ e) in
    ends_here last rest (bundle_text more) b none behind

pub front_is_made : EscapedIsPlain → FrontsAreRecords → FrontsAreFiles → FrontsAreLinks → FrontIsMade
front_is_made plain first second third made (stages.Waiting held) records rest all at of e = absurd of
front_is_made plain first second third made (stages.Told terminal held) records rest all at of e = absurd of
front_is_made plain first second third made stages.File records rest all at of e = absurd of
front_is_made plain first second third made (stages.Line line) records rest all at of e = front_line first made line rest records all at e
front_is_made plain first second third made (stages.Content left) records rest all at of e = front_content second made left rest records all at e
front_is_made plain first second third made (stages.Link size path) records rest all at of e = front_link third made size path rest records all at e
front_is_made plain first second third made (stages.Bad line) records rest all at of e = front_bad plain first made line rest records all at e
front_is_made plain first second third made (stages.Unended byte) records rest all at of e = at.1 (front_unended second made byte rest records all at.0 e)

pub file_is_made : FileIsMade
file_is_made made at = at.1 ∙ ap (λ (l : List ℕ). File [] l ∷ []) (sym (ap bytes_made at.1))
