-- What sources and sinks mean, and what went through one between two moments. A stream that doesn't tell its bytes has
-- `None` for them.
use Rattle.std.specs.Prelude.{◌≡◌, ℕ, ◌<◌, ◌⊎◌, List, None, [], length, take, Option, ⊤}
use Rattle.tg_bytes.specs.Told.{after_front, grown, IsNothing}
use Rattle.tg_faults.specs.Faults.{Rose}

-- what a kind of source says of its values: what is still to come, told or not; that no byte is to come; how many calls
-- failed; how many were made, told or not; and how a value moves when these bytes are taken from it
pub record SourceMeaning (S : Type 0) : Type 1 where
  pub left : S → Option (List ℕ)
  pub at_end : S → Type 0
  pub faults : S → ℕ
  pub calls : S → Option ℕ
  pub took : S → S → List ℕ → Type 0

-- what a kind of sink says of its values: what was put so far, told or not; how many calls failed; how many were made,
-- told or not; and how a value moves when these bytes are put into it
pub record SinkMeaning (S : Type 0) : Type 1 where
  pub held : S → Option (List ℕ)
  pub faults : S → ℕ
  pub calls : S → Option ℕ
  pub wrote : S → S → List ℕ → Type 0

-- a sink that tells nothing of what was put, and counts no fault
abbrev pub dropping : {S : Type 0} → SinkMeaning S
dropping = record { held = λ _. None; faults = λ _. 0; calls = λ _. None; wrote = λ _ _ _. ⊤ }

-- a source before and after
pub record Input : Type 1 where
  pub took : List ℕ → Type 0
  pub ended : Type 0
  pub left_old : Option (List ℕ)
  pub left_new : Option (List ℕ)
  pub faults_old : ℕ
  pub faults_new : ℕ

abbrev pub through : {S : Type 0} → SourceMeaning S → S → S → Input
through m old new = record {
  took = m.took old new;
  ended = m.at_end new;
  left_old = m.left old;
  left_new = m.left new;
  faults_old = m.faults old;
  faults_new = m.faults new;
}

-- a sink before and after
pub record Output : Type 1 where
  pub wrote : List ℕ → Type 0
  pub held_old : Option (List ℕ)
  pub held_new : Option (List ℕ)
  pub faults_old : ℕ
  pub faults_new : ℕ

abbrev pub into : {S : Type 0} → SinkMeaning S → S → S → Output
into m old new = record {
  wrote = m.wrote old new;
  held_old = m.held old;
  held_new = m.held new;
  faults_old = m.faults old;
  faults_new = m.faults new;
}

-- no fault of the stream was counted, or one was
abbrev pub InputQuiet : Input → Type 0
InputQuiet input = input.faults_new ≡ input.faults_old

abbrev pub OutputQuiet : Output → Type 0
OutputQuiet out = out.faults_new ≡ out.faults_old

abbrev pub InputRose : Input → Type 0
InputRose input = Rose input.faults_old input.faults_new

abbrev pub OutputRose : Output → Type 0
OutputRose out = Rose out.faults_old out.faults_new

-- these bytes were taken
pub record Took (bytes : List ℕ) (input : Input) : Type 0 where
  pub moved : input.took bytes
  pub left : input.left_old ≡ after_front bytes input.left_new

-- nothing is left to take
pub record Ended (input : Input) : Type 0 where
  pub ended : input.ended
  pub nothing : IsNothing input.left_new

-- these bytes were taken, and the source has ended
pub record TookAll (bytes : List ℕ) (input : Input) : Type 0 where
  pub taken : Took bytes input
  pub ended : Ended input

-- nothing was taken
pub record Untaken (input : Input) : Type 0 where
  pub moved : input.took []
  pub left : input.left_new ≡ input.left_old

-- these bytes were put
pub record Put (bytes : List ℕ) (out : Output) : Type 0 where
  pub moved : out.wrote bytes
  pub held : out.held_new ≡ grown out.held_old bytes

-- nothing was put
pub record Unput (out : Output) : Type 0 where
  pub moved : out.wrote []
  pub held : out.held_new ≡ out.held_old

-- a front of the bytes was put, and a fault was counted
pub record PutFront (bytes : List ℕ) (out : Output) : Type 0 where
  pub count : ℕ
  pub within : count < length bytes
  pub put : Put (take count bytes) out
  pub rose : OutputRose out

-- the bytes were put, or a front of them and a fault was counted
abbrev pub PutOrFront : List ℕ → Output → Type 0
PutOrFront bytes out = Put bytes out ⊎ PutFront bytes out
