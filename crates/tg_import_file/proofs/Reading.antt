-- A file that is read from its beginning on.
use Rattle.std.proofs.Common.{◌≡◌, ◌+◌, ◌<◌, ◌≤◌, ℕ, List, Option, None, Some, [], ◌++◌, length, take, drop, refl, sym, ap, ◌∙◌, subst, arith}
use Rattle.std.specs.Prelude.{IfSome}
use Rattle.std.proofs.lemmas.List.{append-nil, length-append, length-take-le}
use Rattle.std.proofs.lemmas.Option.{same_Some}
use Rattle.tg_bytes.specs.Told.{IsNothing, after_front}
use Rattle.tg_bytes.specs.ToldLaws.{after_front-after_front}
use Rattle.tg_filedag.specs.Chunks.{ChunkerState}
use Rattle.tg_filedag.specs.State.{BalancedState, KeptInOrder}
use Rattle.tg_filedag.specs.Trees.{AreOfFileParts}
use Rattle.tg_files.specs.Folders.{FolderMeaning, FolderQuiet, SameFolder, folder_step}
use Rattle.tg_files.specs.Packs.{ReadAt, rest_at}
use Rattle.tg_node_writing.specs.KeepingSteps.{Joins, keeps_both, keeps_nothing}
use Rattle.tg_import_file.specs.Files.{max_file_len}
use Rattle.tg_import_file.specs.Taking.{HasTaken, MayTake, TakesFile, TakesPiece}
use Rattle.tg_model_laws.specs.Stores.{KeepingJoins}
use Rattle.tg_model.specs.Dag.{Section, no_child}
use Rattle.tg_model.specs.Stores.{KeepMeaning, kept_in}
use Rattle.tg_tree.specs.Tree.{HasFileAt, bytes_of, tree_at}
use Rattle.tg_tree.specs.declared.tree.Tree.{Tree}
use Rattle.tg_node_writing.specs.BlockOrderLaws.{behind_nothing}
use Rattle.tg_node_writing.specs.Keeping.{Keeps}

-- ---- the bytes

-- these are the first bytes of a file, as far as they are told, and the offset is behind them
abbrev pub IsFrontTo : Option (List ℕ) → ℕ → List ℕ → Type 0
IsFrontTo file offset bytes = (length bytes ≡ offset) × (file ≡ after_front bytes (rest_at file offset))

behind_none : (file : Option (List ℕ)) → file ≡ after_front [] (rest_at file 0)
behind_none None = refl
behind_none (Some content) = refl

read_on : (file : Option (List ℕ)) (offset n : ℕ) (bytes buf : List ℕ) → IsFrontTo file offset bytes → ReadAt file offset n buf → IsFrontTo file (offset + n) (bytes ++ take n buf)
read_on file offset n bytes buf front read =
    let part = length-take-le n buf read.within in
    let whole = length-append bytes (take n buf) in
    let count = front.0 in (
      omega arith,
      front.1 ∙ ap (λ (rest : Option (List ℕ)). after_front bytes rest) read.bytes ∙ after_front-after_front bytes (take n buf) (rest_at file (offset + n)),
    )

read_all : (file : Option (List ℕ)) (offset : ℕ) (bytes : List ℕ) → IsFrontTo file offset bytes → IsNothing (rest_at file offset) → IfSome file (λ content. content ≡ bytes)
read_all None offset bytes front none = tt
read_all (Some content) offset bytes front none =
    same_Some content (bytes ++ drop offset content) front.1 ∙ ap (λ (t : List ℕ). bytes ++ t) none ∙ append-nil bytes

longer : (file : Option (List ℕ)) (offset most : ℕ) (bytes : List ℕ) → IsFrontTo file offset bytes → most < offset → IfSome file (λ content. most < length content)
longer None offset most bytes front more = tt
longer (Some content) offset most bytes front more =
    let is : length content ≡ length (bytes ++ drop offset content) = ap length (same_Some content (bytes ++ drop offset content) front.1) in
    let whole = length-append bytes (drop offset content) in
    let count = front.0 in
    omega arith

-- ---- the writer and the folder meanwhile

-- the bytes before the offset were read and taken
pub record Reading {F S : Type 0} (f : FolderMeaning F) (m : KeepMeaning S) (before now : F) (from to : S) (path : List (List ℕ)) (c : ChunkerState) (b : BalancedState)
    (d : ChunkerState) (e : BalancedState) (offset : ℕ) : Type 0 where
  pub bytes : List ℕ
  pub sections : List Section
  pub taken : HasTaken d e bytes sections
  pub keeps : Keeps sections (kept_in m from to)
  pub parts : AreOfFileParts sections
  pub front : IsFrontTo (bytes_of (tree_at (f.tree before) path)) offset bytes
  pub few : offset ≤ max_file_len
  pub same : SameFolder (folder_step f before now)
  pub quiet : FolderQuiet (folder_step f before now)
  pub size : d.size ≡ c.size
  pub width : e.width ≡ b.width

pub reading_begins : {F S : Type 0} → (f : FolderMeaning F) (m : KeepMeaning S) → ((s : S) → m.kept s s []) → (x : F) (s : S) (path : List (List ℕ)) (c : ChunkerState) (b : BalancedState)
    → HasTaken c b [] [] → Reading f m x x s s path c b c b 0
reading_begins f m rests x s path c b ready = record {
  bytes = [];
  sections = [];
  taken = ready;
  keeps = keeps_nothing m rests s;
  parts = record { parts = no_child; each = tt; are = refl; order = behind_nothing [] };
  front = (refl, behind_none (bytes_of (tree_at (f.tree x) path)));
  few = omega arith;
  same = record { tree = refl; place = refl };
  quiet = refl;
  size = refl;
  width = refl;
}

-- the file is still there
pub file_stays : {F : Type 0} → (f : FolderMeaning F) (x y : F) (path : List (List ℕ)) → SameFolder (folder_step f x y) → HasFileAt (f.tree x) path → HasFileAt (f.tree y) path
file_stays f x y path same has = subst (λ (tree : Option Tree). HasFileAt tree path) (sym same.tree) has

-- what was read before the piece, and the piece
read_here : {F : Type 0} → (f : FolderMeaning F) (x y : F) (path : List (List ℕ)) (offset n : ℕ) (buf : List ℕ) → SameFolder (folder_step f x y)
    → ReadAt (bytes_of (tree_at (f.tree y) path)) offset n buf → ReadAt (bytes_of (tree_at (f.tree x) path)) offset n buf
read_here f x y path offset n buf same read = subst (λ (tree : Option Tree). ReadAt (bytes_of (tree_at tree path)) offset n buf) same.tree read

-- a piece that is not too long may be taken
pub reading_may : {F S : Type 0} → (f : FolderMeaning F) (m : KeepMeaning S) (x y : F) (s t : S) (path : List (List ℕ)) (c d : ChunkerState) (b e : BalancedState) (offset n more : ℕ)
    → Reading f m x y s t path c b d e offset → offset + n ≤ max_file_len → more ≤ n → MayTake d e more
reading_may f m x y s t path c d b e offset n more r most le =
    let count = r.front.0 in
    record { bytes = r.bytes; kept = r.sections; taken = r.taken; few = omega arith }

pub reading_next : KeptInOrder → {F S : Type 0} → (f : FolderMeaning F) (m : KeepMeaning S) → Joins m → KeepingJoins → (x y z : F) (s t u : S) (path : List (List ℕ)) (c d d' : ChunkerState)
    (b e e' : BalancedState) (offset n next : ℕ) (buf : List ℕ) → Reading f m x y s t path c b d e offset → ReadAt (bytes_of (tree_at (f.tree y) path)) offset n buf
    → SameFolder (folder_step f y z) → FolderQuiet (folder_step f y z) → next ≡ offset + n → next ≤ max_file_len
    → TakesPiece d e d' e' (take n buf) (kept_in m t u) → d'.size ≡ d.size → e'.width ≡ e.width → Reading f m x z s u path c b d' e' next
reading_next order f m joins stores x y z s t u path c d d' b e e' offset n next buf r read same quiet is most takes size width =
    let more = takes r.bytes r.sections r.taken in
    let file = bytes_of (tree_at (f.tree x) path) in
    record {
      bytes = r.bytes ++ take n buf;
      sections = r.sections ++ more.0;
      taken = more.2;
      keeps = keeps_both m joins stores s t u r.sections more.0 r.keeps more.1;
      parts = order.stands e' more.2.chunks (r.sections ++ more.0) more.2.stands;
      front = subst (λ (o : ℕ). IsFrontTo file o (r.bytes ++ take n buf)) (sym is)
          (read_on file offset n r.bytes buf r.front (read_here f x y path offset n buf r.same read));
      few = most;
      same = record { tree = same.tree ∙ r.same.tree; place = same.place ∙ r.same.place };
      quiet = quiet ∙ r.quiet;
      size = size ∙ r.size;
      width = width ∙ r.width;
    }

pub reading_ends : {F S : Type 0} → (f : FolderMeaning F) (m : KeepMeaning S) (x y : F) (s t : S) (path : List (List ℕ)) (c d : ChunkerState) (b e : BalancedState) (offset n : ℕ)
    (buf : List ℕ) → Reading f m x y s t path c b d e offset → ReadAt (bytes_of (tree_at (f.tree y) path)) offset n buf → n ≡ 0 → 0 < length buf
    → TakesFile (bytes_of (tree_at (f.tree x) path)) d e (kept_in m s t)
reading_ends f m x y s t path c d b e offset n buf r read none room =
    let here = read_here f x y path offset n buf r.same read in
    let count = r.front.0 in
    let few = r.few in
    record {
      bytes = r.bytes;
      sections = r.sections;
      taken = r.taken;
      keeps = r.keeps;
      few = omega arith;
      told = read_all (bytes_of (tree_at (f.tree x) path)) offset r.bytes r.front (here.end none room);
    }

-- the file is longer than a file may be
pub reading_long : {F S : Type 0} → (f : FolderMeaning F) (m : KeepMeaning S) (x y : F) (s t : S) (path : List (List ℕ)) (c d : ChunkerState) (b e : BalancedState) (offset n : ℕ)
    (buf : List ℕ) → Reading f m x y s t path c b d e offset → ReadAt (bytes_of (tree_at (f.tree y) path)) offset n buf → max_file_len < offset + n
    → IfSome (bytes_of (tree_at (f.tree x) path)) (λ content. max_file_len < length content)
reading_long f m x y s t path c d b e offset n buf r read more =
    let file = bytes_of (tree_at (f.tree x) path) in
    longer file (offset + n) max_file_len (r.bytes ++ take n buf) (read_on file offset n r.bytes buf r.front (read_here f x y path offset n buf r.same read)) more
