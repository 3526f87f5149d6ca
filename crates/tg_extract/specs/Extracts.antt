-- What a text was made into so far, and what it says of the text.
use Rattle.std.proofs.Common.{◌∙◌, ap, append-nil, append_assoc, subst, sym}
use Rattle.std.specs.Prelude.{All, IfSome, List, None, Option, Some, refl, [], length, map, ⊤, ℕ, ◌≡◌, ◌≢◌, ◌++◌, ◌+◌, ◌<◌, ◌^◌, ◌∷◌, ◌⊎◌, ◌≤◌}
use Rattle.tg_bundles.specs.Reading.{path_of, size_of}
use Rattle.tg_bundles.specs.Records.{Record, bundle_text, file, folder, path_text, record_text}
use Rattle.tg_bytes.specs.Ascii.{line_feed}
use Rattle.tg_faults.specs.Faults.{Rose}
use Rattle.tg_extract.specs.Lines.{IsGoodLine, IsGoodPath, line_text}
use Rattle.tg_extract.specs.declared.lines.Line.{Line}
use Rattle.tg_extract.specs.declared.lines.Line.TheVariants as lines
use Rattle.tg_extract.specs.declared.extract.Stage.{Stage}
use Rattle.tg_extract.specs.declared.extract.Stage.TheVariants as stages
use Rattle.tg_extract.specs.declared.fault.ExtractFault.{ExtractFault}
use Rattle.tg_extract.specs.declared.fault.ExtractFault.TheVariants as faults
use Rattle.tg_model.specs.Texts.{file_line, link_line}
use Rattle.tg_new_tree.specs.NewTrees.{NewTreeMeaning, NewTreeQuiet, NewTreeRose, NewTreeStep, new_tree_step}
use Rattle.tg_new_tree.specs.declared.made.Made.{Made}
use Rattle.tg_streams.specs.Streams.{SinkMeaning}
use Rattle.tg_verify.specs.declared.terminal.Terminal.{Terminal}
use Rattle.tg_verify.specs.declared.terminal.Terminal.TheVariants as terminals
use Rattle.tg_new_tree.specs.declared.made.Made.TheVariants.{File, Folder}

-- what was made, as records of a bundle
abbrev pub record_made : Made → Record
record_made (Folder path) = folder path
record_made (File path bytes) = file path bytes

abbrev pub records_made : List Made → List Record
records_made made = map record_made made

-- the bundle's text up to the end of what was made, of whose last file so many bytes are to come
abbrev pub made_text : Made → ℕ → List ℕ
made_text (Folder path) left = record_text (folder path)
made_text (File path bytes) left = file_line (length bytes + left) (path_text path) ++ bytes

abbrev pub open_text : List Made → ℕ → List ℕ
open_text [] left = []
open_text (last ∷ []) left = made_text last left
open_text (made ∷ next ∷ more) left = record_text (record_made made) ++ open_text (next ∷ more) left

-- the bytes of one file that is made alone
abbrev pub bytes_made : List Made → List ℕ
bytes_made [] = []
bytes_made (Folder path ∷ more) = []
bytes_made (File path bytes ∷ more) = bytes

-- the text that was read, by what was made of it and by what is to come: what it is of isn't told yet, or nothing was read since it is;
-- it is one file's bytes; a first line is to end; or so many bytes of a file are to come, and then its end; or nothing is made behind a
-- link's first line, behind another line, or behind a byte that isn't a file's end
abbrev pub text_read : List Made → Stage → List ℕ
text_read made (stages.Waiting held) = held
text_read made (stages.Told terminal held) = held
text_read made stages.File = bytes_made made
text_read made (stages.Line line) = bundle_text (records_made made) ++ line
text_read made (stages.Content left) = open_text made left
text_read made (stages.Link size path) = bundle_text (records_made made) ++ link_line size (path_text path)
text_read made (stages.Bad line) = bundle_text (records_made made) ++ line
text_read made (stages.Unended byte) = open_text made 0 ++ byte ∷ []

-- a record's path has names of entries alone, at most 128, and its size has at most 19 digits
pub record IsGoodRecord (entry : Record) : Type 0 where
  pub path : IsGoodPath (path_of entry)
  pub size : size_of entry < 10 ^ 19

-- a first line is to end, of which this came: behind whole records
pub record IsAtLine (made : List Made) (line : List ℕ) : Type 0 where
  pub no_end : All (λ b. b ≢ line_feed) line
  pub good : All IsGoodRecord (records_made made)

-- so many bytes are to come of the file that was made last, behind whole records
pub record IsAtContent (made : List Made) (left : ℕ) : Type 0 where
  pub before : List Made
  pub path : List (List ℕ)
  pub held : List ℕ
  pub is : made ≡ before ++ File path held ∷ []
  pub good : All IsGoodRecord (records_made before)
  pub good_path : IsGoodPath path
  pub small : length held + left < 10 ^ 19

-- a symbolic link comes next, at this path, behind whole records
pub record IsAtLink (made : List Made) (size : ℕ) (path : List (List ℕ)) : Type 0 where
  pub good : All IsGoodRecord (records_made made)
  pub good_path : IsGoodPath path
  pub small : size < 10 ^ 19

-- a line ended that isn't the first line of a record that is made or of a link, behind whole records
pub record IsAtBad (made : List Made) (line : List ℕ) : Type 0 where
  pub good : All IsGoodRecord (records_made made)
  pub front : List ℕ
  pub is : line ≡ front ++ line_feed ∷ []
  pub no_end : All (λ b. b ≢ line_feed) front
  pub none : (other : Line) → IsGoodLine other → line_text other ≢ line

-- what was made at each stage
abbrev pub IsAtStage : List Made → Stage → Type 0
IsAtStage made (stages.Waiting held) = made ≡ []
IsAtStage made (stages.Told terminal held) = made ≡ []
IsAtStage made stages.File = (bytes : List ℕ) × (made ≡ File [] bytes ∷ [])
IsAtStage made (stages.Line line) = IsAtLine made line
IsAtStage made (stages.Content left) = IsAtContent made left
IsAtStage made (stages.Link size path) = IsAtLink made size path
IsAtStage made (stages.Bad line) = IsAtBad made line
IsAtStage made (stages.Unended byte) = IsAtContent made 0 × (byte ≢ line_feed)

-- all that was read was made
abbrev pub IsWhole : Stage → Type 0
IsWhole (stages.Waiting held) = ⊥
IsWhole (stages.Told terminal held) = ⊥
IsWhole stages.File = ⊤
IsWhole (stages.Line line) = line ≡ []
IsWhole (stages.Content left) = ⊥
IsWhole (stages.Link size path) = ⊥
IsWhole (stages.Bad line) = ⊥
IsWhole (stages.Unended byte) = ⊥

-- what the text was told to be of
abbrev pub kind_of : Stage → Option Terminal
kind_of (stages.Waiting held) = None
kind_of (stages.Told terminal held) = Some terminal
kind_of stages.File = Some terminals.File
kind_of (stages.Line line) = Some terminals.Directory
kind_of (stages.Content left) = Some terminals.Directory
kind_of (stages.Link size path) = Some terminals.Directory
kind_of (stages.Bad line) = Some terminals.Directory
kind_of (stages.Unended byte) = Some terminals.Directory

-- the path of the symbolic link that comes next: of no names, where all of the text is a link's target
abbrev pub told_link : Terminal → Option (List (List ℕ))
told_link terminals.File = None
told_link terminals.Directory = None
told_link terminals.Symlink = Some []

abbrev pub link_at : Stage → Option (List (List ℕ))
link_at (stages.Waiting held) = None
link_at (stages.Told terminal held) = told_link terminal
link_at stages.File = None
link_at (stages.Line line) = None
link_at (stages.Content left) = None
link_at (stages.Link size path) = Some path
link_at (stages.Bad line) = None
link_at (stages.Unended byte) = None

-- what came ends in what no record that is made begins with
abbrev pub IsBad : Stage → Type 0
IsBad (stages.Waiting held) = ⊥
IsBad (stages.Told terminal held) = ⊥
IsBad stages.File = ⊥
IsBad (stages.Line line) = ⊥
IsBad (stages.Content left) = ⊥
IsBad (stages.Link size path) = ⊥
IsBad (stages.Bad line) = ⊤
IsBad (stages.Unended byte) = ⊤

-- a symbolic link comes next
abbrev pub IsAtSome : Option (List (List ℕ)) → Type 0
IsAtSome None = ⊥
IsAtSome (Some path) = ⊤

abbrev pub IsLink : Stage → Type 0
IsLink stage = IsAtSome (link_at stage)

-- nothing is made behind it
abbrev pub IsStuck : Stage → Type 0
IsStuck stage = IsLink stage ⊎ IsBad stage

-- where it may stop for a fault
abbrev pub IsStoppedAt : Stage → ExtractFault → Type 0
IsStoppedAt stage faults.Tree = ⊤
IsStoppedAt stage faults.NotPlain = IsLink stage
IsStoppedAt stage faults.BadText = IsBad stage
IsStoppedAt stage faults.OutOfMemory = ⊤

-- what the tree counted meanwhile
abbrev pub IsTreeCause : NewTreeStep → ExtractFault → Type 0
IsTreeCause step faults.Tree = NewTreeRose step
IsTreeCause step faults.NotPlain = NewTreeQuiet step
IsTreeCause step faults.BadText = NewTreeQuiet step
IsTreeCause step faults.OutOfMemory = NewTreeQuiet step

-- why it stops
abbrev pub HasCause : Stage → NewTreeStep → ExtractFault → Type 0
HasCause stage step fault = IsStoppedAt stage fault × IsTreeCause step fault

-- what contracts see: the tree, the stage, what came and isn't read since it stopped, why it stopped, and how many calls failed
pub record ExtractState (T : Type 0) : Type 0 where
  pub tree : T
  pub stage : Stage
  pub unread : List ℕ
  pub refused : Option ExtractFault
  pub faults : ℕ

-- the text that came
abbrev pub text_of : {T : Type 0} → NewTreeMeaning T → ExtractState T → List ℕ
text_of m state = text_read (m.made state.tree) state.stage ++ state.unread

-- a bundle is read
abbrev pub IsOfBundle : Stage → Type 0
IsOfBundle (stages.Waiting held) = ⊥
IsOfBundle (stages.Told terminal held) = ⊥
IsOfBundle stages.File = ⊥
IsOfBundle (stages.Line line) = ⊤
IsOfBundle (stages.Content left) = ⊤
IsOfBundle (stages.Link size path) = ⊤
IsOfBundle (stages.Bad line) = ⊤
IsOfBundle (stages.Unended byte) = ⊤

-- what is held was read
abbrev pub IsRead : Stage → Type 0
IsRead (stages.Waiting held) = ⊤
IsRead (stages.Told terminal held) = ⊥
IsRead stages.File = ⊤
IsRead (stages.Line line) = ⊤
IsRead (stages.Content left) = ⊤
IsRead (stages.Link size path) = ⊤
IsRead (stages.Bad line) = ⊤
IsRead (stages.Unended byte) = ⊤

-- these bytes came behind those of before, and the tree stands where it stood; what stopped stays so, with what was made; and what stops
-- has its cause, but for which no fault of the tree was counted
pub record Grows {T : Type 0} (m : NewTreeMeaning T) (old new : ExtractState T) (bytes : List ℕ) : Type 0 where
  pub text : text_of m new ≡ text_of m old ++ bytes
  pub place : m.place new.tree ≡ m.place old.tree
  pub going : new.refused ≡ None → old.refused ≡ None
  pub quiet : new.refused ≡ None → m.faults new.tree ≡ m.faults old.tree
  pub calm : new.refused ≡ None → new.faults ≡ old.faults
  pub cause : old.refused ≡ None → IfSome new.refused (IsTreeCause (new_tree_step m old.tree new.tree))
  pub stays : IfSome old.refused (λ fault. (new.refused ≡ Some fault) × (new.tree ≡ old.tree))

-- and what was told of the text stays
pub record Extracts {T : Type 0} (m : NewTreeMeaning T) (old new : ExtractState T) (bytes : List ℕ) : Type 0 where
  pub grows : Grows m old new bytes
  pub kind : kind_of new.stage ≡ kind_of old.stage

-- of what was made and of what is to come then, by the first line of a record
abbrev pub HasMadeLine : Line → List Made → List Made → Stage → Type 0
HasMadeLine (lines.Folder path) old new stage = (new ≡ old ++ Folder path ∷ []) × (stage ≡ stages.Line [])
HasMadeLine (lines.File size path) old new stage = (new ≡ old ++ File path [] ∷ []) × (stage ≡ stages.Content size)
HasMadeLine (lines.Link size path) old new stage = (new ≡ old) × (stage ≡ stages.Link size path)

-- why nothing was made
abbrev pub IsMakeCause : NewTreeStep → ExtractFault → Type 0
IsMakeCause step faults.Tree = NewTreeRose step
IsMakeCause step faults.OutOfMemory = NewTreeQuiet step
IsMakeCause step other = ⊥

-- bytes that go beyond an end of a line, before which none stands
pub record EndsLine (bytes front : List ℕ) : Type 0 where
  pub no_end : All (λ b. b ≢ line_feed) front
  pub rest : List ℕ
  pub whole : bytes ≡ front ++ line_feed ∷ rest

-- of the text of a first line without its end: it is one, and this was made of it
pub record HasMadeGood (text : List ℕ) (old new : List Made) (stage : Stage) : Type 0 where
  pub line : Line
  pub good : IsGoodLine line
  pub is : line_text line ≡ text ++ line_feed ∷ []
  pub made : HasMadeLine line old new stage

-- or none of a record that is made or of a link
pub record HasEndedBad (text : List ℕ) (old new : List Made) (stage : Stage) : Type 0 where
  pub same : new ≡ old
  pub stage_is : stage ≡ stages.Bad (text ++ line_feed ∷ [])
  pub none : (line : Line) → IsGoodLine line → line_text line ≢ text ++ line_feed ∷ []

abbrev pub HasMadeText : List ℕ → List Made → List Made → Stage → Type 0
HasMadeText text old new stage = HasMadeGood text old new stage ⊎ HasEndedBad text old new stage

-- what an extract means as a sink
abbrev pub extract_sink : {T : Type 0} → NewTreeMeaning T → SinkMeaning (ExtractState T)
extract_sink m = record {
  held = λ e. Some (text_of m e);
  faults = λ e. e.faults;
  calls = λ _. None;
  wrote = λ a b bytes. Extracts m a b bytes;
}

-- what stopped and didn't change stays so
stays_still : {T : Type 0} (refused : Option ExtractFault) (tree : T) → IfSome refused (λ fault. (refused ≡ Some fault) × (tree ≡ tree))
stays_still None tree = tt
stays_still (Some fault) tree = (refl, refl)

-- what it means where it may be told something between the bytes
pub grows_rests : {T : Type 0} (m : NewTreeMeaning T) (e : ExtractState T) → Grows m e e []
grows_rests m e = record {
  text = sym (append-nil (text_of m e));
  place = refl;
  going = λ h. h;
  quiet = λ h. refl;
  calm = λ h. refl;
  cause = λ h. subst (λ (r : Option ExtractFault). IfSome r (IsTreeCause (new_tree_step m e.tree e.tree))) (sym h) tt;
  stays = stays_still e.refused e.tree;
}

-- a cause from a tree that counted as many faults is one from the other, and so is one to the same tree
pub cause_from : {T : Type 0} (m : NewTreeMeaning T) (a b c : T) (refused : Option ExtractFault) → m.faults b ≡ m.faults a
    → IfSome refused (IsTreeCause (new_tree_step m b c)) → IfSome refused (IsTreeCause (new_tree_step m a c))
cause_from m a b c None same h = tt
cause_from m a b c (Some faults.Tree) same h =
    record { rose = subst (λ (n : ℕ). Rose n (m.faults c)) same h.rose; counted = subst (λ (n : ℕ). n ≤ m.faults c) same h.counted }
cause_from m a b c (Some faults.NotPlain) same h = h ∙ same
cause_from m a b c (Some faults.BadText) same h = h ∙ same
cause_from m a b c (Some faults.OutOfMemory) same h = h ∙ same

cause_stays : {T : Type 0} (m : NewTreeMeaning T) (a b c : T) (first last : Option ExtractFault) → IfSome first (IsTreeCause (new_tree_step m a b))
    → IfSome first (λ fault. (last ≡ Some fault) × (c ≡ b)) → (first ≡ None → IfSome last (IsTreeCause (new_tree_step m a c)))
    → IfSome last (IsTreeCause (new_tree_step m a c))
cause_stays m a b c None last h stays other = other refl
cause_stays m a b c (Some fault) last h stays other = rw (stays.0, stays.1) h

stays_joined : {T : Type 0} (a b c : ExtractState T) (refused : Option ExtractFault) → IfSome refused (λ fault. (b.refused ≡ Some fault) × (b.tree ≡ a.tree))
    → IfSome b.refused (λ fault. (c.refused ≡ Some fault) × (c.tree ≡ b.tree)) → IfSome refused (λ fault. (c.refused ≡ Some fault) × (c.tree ≡ a.tree))
stays_joined a b c None h k = tt
stays_joined {T = T} a b c (Some fault) h k =
    let last = subst (λ (r : Option ExtractFault). IfSome r (λ fault. (c.refused ≡ Some fault) × (c.tree ≡ b.tree))) h.0 k in
    (last.0, last.1 ∙ h.1)

pub grows_joins : {T : Type 0} (m : NewTreeMeaning T) (a b c : ExtractState T) (u v : List ℕ) → Grows m a b u → Grows m b c v → Grows m a c (u ++ v)
grows_joins m a b c u v p q = record {
  text = q.text ∙ ap (λ xs. xs ++ v) p.text ∙ append_assoc (text_of m a) u v;
  place = q.place ∙ p.place;
  going = λ h. p.going (q.going h);
  quiet = λ h. q.quiet h ∙ p.quiet (q.going h);
  calm = λ h. q.calm h ∙ p.calm (q.going h);
  cause = λ h. cause_stays m a.tree b.tree c.tree b.refused c.refused (p.cause h) q.stays
      (λ going. cause_from m a.tree b.tree c.tree c.refused (p.quiet going) (q.cause going));
  stays = stays_joined a b c a.refused p.stays q.stays;
}

pub extract_rests : {T : Type 0} (m : NewTreeMeaning T) (e : ExtractState T) → Extracts m e e []
extract_rests m e = record { grows = grows_rests m e; kind = refl }

pub extract_joins : {T : Type 0} (m : NewTreeMeaning T) (a b c : ExtractState T) (u v : List ℕ) → Extracts m a b u → Extracts m b c v → Extracts m a c (u ++ v)
extract_joins m a b c u v p q = record { grows = grows_joins m a b c u v p.grows q.grows; kind = q.kind ∙ p.kind }
