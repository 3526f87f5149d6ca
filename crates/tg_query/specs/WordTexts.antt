-- Words ROOT/PATH of the command line (this project's own): a target without a query, whose front `/ipfs/` may be left
-- out.
use Rattle.std.specs.Prelude.{List, None, Ok, Option, Result, Some, codes, ℕ, ◌++◌, ◌≡◌, ◌⊎◌}
use Rattle.tg_bytes.specs.Ascii.{slash}
use Rattle.tg_cid.specs.Cid.{CidParts}
use Rattle.tg_cid.specs.Spelling.{CidText}
use Rattle.tg_query.specs.Answers.{◌>>=◌}
use Rattle.tg_query.specs.CidAnswers.{root_of}
use Rattle.tg_query.specs.Cuts.{behind, behind_front, cut_first}
use Rattle.tg_query.specs.Paths.{PathBehind, path_behind}
use Rattle.tg_query.specs.declared.fault.QueryFault.{QueryFault}

-- the front of targets (Path Gateway specification)
abbrev pub ipfs : List ℕ
ipfs = codes "/ipfs/"

-- a root and the path from there
abbrev pub Rooted : Type 0
Rooted = CidParts × List (List ℕ)

-- a CID's text, then nothing or a slash and a path
pub record RootedText (text : List ℕ) (root : CidParts) (path : List (List ℕ)) : Type 0 where
  pub root_text : List ℕ
  pub rest : Option (List ℕ)
  pub whole : text ≡ root_text ++ behind slash rest
  pub root_is : CidText root root_text
  pub path_is : PathBehind rest path

pub record WordText (word : List ℕ) (root : CidParts) (path : List (List ℕ)) : Type 0 where
  pub text : List ℕ
  pub front : (word ≡ text) ⊎ (word ≡ ipfs ++ text)
  pub rooted : RootedText text root path

-- the same as functions: the value, or the first fault
abbrev pub rooted_with : List ℕ × Option (List ℕ) → Result Rooted QueryFault
rooted_with parts = root_of parts.0 >>= λ root. path_behind parts.1 >>= λ path. Ok (root, path)

abbrev pub rooted_of : List ℕ → Result Rooted QueryFault
rooted_of text = rooted_with (cut_first slash text)

-- the word without the front
abbrev pub or_whole : List ℕ → Option (List ℕ) → List ℕ
or_whole word None = word
or_whole word (Some rest) = rest

abbrev pub word_of : List ℕ → Result Rooted QueryFault
word_of word = rooted_of (or_whole word (behind_front ipfs word))
