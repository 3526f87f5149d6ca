-- The answers to the lines of a command whose positional words are of one form, as none, one, two, three or any number.
use Rattle.std.proofs.Common.{◌≡◌, ℕ, List, [], ◌∷◌, Ok, Err, refl, sym, ap, ap₂, ◌∙◌, subst}
use Rattle.std.specs.Prelude.{Result, ⊤}
use Rattle.tg_bytes.specs.Lists.{same_only}
use Rattle.tg_words.specs.Words.{Names, Given, Line, WordsSpelling}
use Rattle.tg_words.specs.CommandLine.{OperandLine, no_names}
use Rattle.tg_words.specs.Operands.{Answers, Exact}
use Rattle.tg_words.specs.declared.Command.{Command}
use Rattle.tg_words.specs.declared.WordsFault.{WordsFault}
use Rattle.tg_words.specs.declared.WordsFault.TheVariants.{OutOfMemory}
use Rattle.tg_words.proofs.Known.{known, no_options_by}
use Rattle.tg_words.proofs.Readings.{AreNames, one_spelling_of_words}

-- an answer that lacks a part
pub exact_err : {A B : Type 0} (P : A → Type 0) (Q : B → Type 0) (e : WordsFault) → Exact P (Err e) → ((b : B) → Q b → (a : A) × P a) → Exact Q (Err e)
exact_err P Q e exact part = record { found = tt; only = λ b is. let a = part b is in exact.only a.0 a.1 }

-- how positional words are written, each in its way
pub record Writing (Words : Type 0) : Type 0 where
  pub texts : Words → List (List ℕ)
  pub one : (a b : Words) → texts a ≡ texts b → a ≡ b

pub two_are : (a b c d : List ℕ) → a ∷ b ∷ [] ≡ c ∷ d ∷ [] → (a ≡ c) × (b ≡ d)
two_are a b c d same = let first : a ≡ c = cc in let second : b ≡ d = cc in (first, second)

abbrev pub no_words : Writing ⊤
no_words = record { texts = λ none. []; one = λ a b same. refl }

abbrev pub one_word : Writing (List ℕ)
one_word = record { texts = λ word. word ∷ []; one = same_only }

abbrev pub two_words : Writing (List ℕ × List ℕ)
two_words = record {
  texts = λ pair. pair.0 ∷ pair.1 ∷ [];
  one = λ a b same. let are = two_are a.0 a.1 b.0 b.1 same in ap₂ (λ first second. (first, second)) are.0 are.1;
}

pub same_three : (a b c : List ℕ) (others : List ℕ × List ℕ × List ℕ) → a ≡ others.0 → b ≡ others.1 → c ≡ others.2 → (a, b, c) ≡ others
same_three a b c (x, y, z) first second third = cc

pub three_are : (a b c d e f : List ℕ) → a ∷ b ∷ c ∷ [] ≡ d ∷ e ∷ f ∷ [] → (a ≡ d) × (b ≡ e) × (c ≡ f)
three_are a b c d e f same = let first : a ≡ d = cc in let second : b ≡ e = cc in let third : c ≡ f = cc in (first, second, third)

abbrev pub three_words : Writing (List ℕ × List ℕ × List ℕ)
three_words = record {
  texts = λ three. three.0 ∷ three.1 ∷ three.2 ∷ [];
  one = λ a b same. let are = three_are a.0 a.1 a.2 b.0 b.1 b.2 same in same_three a.0 a.1 a.2 b are.0 are.1 are.2;
}

abbrev pub many_words : Writing (List (List ℕ))
many_words = record { texts = λ words. words; one = λ a b same. same }

-- a command's name and options, how its positional words are written, and what these and the options ask
pub record Form (Words Parts : Type 0) : Type 1 where
  pub name : List ℕ
  pub names : Names
  pub writing : Writing Words
  pub make : Parts → Command
  pub asks : Words → List Given → Parts → Type 0

-- the words are of the form, and they ask this command
pub record IsOf {Words Parts : Type 0} (form : Form Words Parts) (rest : List (List ℕ)) (command : Command) : Type 0 where
  pub parts : Parts
  pub words : Words
  pub options : List Given
  pub is : command ≡ form.make parts
  pub operands : WordsSpelling form.names rest (form.writing.texts words) options
  pub asked : form.asks words options parts

-- the lines of the command are those of the form
pub record Lines {Words Parts : Type 0} (form : Form Words Parts) : Type 0 where
  pub reads : (rest : List (List ℕ)) (command : Command) → OperandLine (form.name ∷ rest) command → IsOf form rest command
  pub writes : (rest : List (List ℕ)) (words : Words) (options : List Given) (parts : Parts) → WordsSpelling form.names rest (form.writing.texts words) options
      → form.asks words options parts → OperandLine (form.name ∷ rest) (form.make parts)

-- the words are these operands of the form alone
abbrev pub OnlyThese : {Words Parts : Type 0} → Form Words Parts → List (List ℕ) → Words → List Given → Type 0
OnlyThese {Words = Words} form rest words options =
    (others : Words) (more : List Given) → WordsSpelling form.names rest (form.writing.texts others) more → (words ≡ others) × (options ≡ more)

-- what the line asks, said of the operands that are found
asked_here : {Words Parts : Type 0} (form : Form Words Parts) (rest : List (List ℕ)) (words : Words) (options : List Given) (command : Command)
    → OnlyThese form rest words options → (l : IsOf form rest command) → form.asks words options l.parts
asked_here form rest words options command only l =
    let same = only l.words l.options l.operands in
    subst (λ w. form.asks w options l.parts) (sym same.0) (subst (λ o. form.asks l.words o l.parts) (sym same.1) l.asked)

-- the operands of a line
pub the_line : (name : List ℕ) (names : Names) (rest texts : List (List ℕ)) (options : List Given) → Line name names (name ∷ rest) texts options → WordsSpelling names rest texts options
the_line name names rest texts options line =
    let all : name ∷ rest ≡ name ∷ line.rest = line.begins in
    let same : line.rest ≡ rest = cc in
    subst (λ ws. WordsSpelling names ws texts options) same line.operands

-- no operands were found
pub no_operands : {Words Parts : Type 0} (form : Form Words Parts) (rest : List (List ℕ)) (e : WordsFault) → Lines form
    → ((words : Words) (options : List Given) → WordsSpelling form.names rest (form.writing.texts words) options → e ≡ OutOfMemory)
    → Answers (form.name ∷ rest) (Err e)
no_operands form rest e lines only = record {
  found = tt;
  only = λ command line. let l = lines.reads rest command line in only l.words l.options l.operands;
}

-- the answer to a line is that to what it asks
abbrev pub answer_of : {Parts : Type 0} → (Parts → Command) → Result Parts WordsFault → Result Command WordsFault
answer_of make (Err e) = Err e
answer_of make (Ok parts) = Ok (make parts)

as_is : (make : Command → Command) (answer : Result Command WordsFault) → ((command : Command) → make command ≡ command) → answer_of make answer ≡ answer
as_is make (Err e) same = refl
as_is make (Ok command) same = ap Ok (same command)

pub exact_answer : {Parts : Type 0} (make : Parts → Command) (Is : Parts → Type 0) (words : List (List ℕ)) (answer : Result Parts WordsFault)
    → ((command : Command) → OperandLine words command → (parts : Parts) × (command ≡ make parts) × Is parts)
    → ((parts : Parts) → Is parts → OperandLine words (make parts)) → Exact Is answer → Answers words (answer_of make answer)
exact_answer make Is words (Err e) reads writes exact = record { found = tt; only = λ command line. let l = reads command line in exact.only l.0 l.2 }
exact_answer make Is words (Ok parts) reads writes exact = record {
  found = writes parts exact.found;
  only = λ command line. let l = reads command line in ap make (exact.only l.0 l.2) ∙ sym l.1;
}

-- operands were found, and what they ask is answered
pub answered : {Words Parts : Type 0} (form : Form Words Parts) (rest : List (List ℕ)) (words : Words) (options seen : List Given) (answer : Result Parts WordsFault)
    → Lines form → seen ≡ options → WordsSpelling form.names rest (form.writing.texts words) options → OnlyThese form rest words options
    → Exact (form.asks words seen) answer → Answers (form.name ∷ rest) (answer_of form.make answer)
answered form rest words options seen answer lines is spelled only exact =
    exact_answer form.make (form.asks words options) (form.name ∷ rest) answer
    (λ command line. let l = lines.reads rest command line in (l.parts, l.is, asked_here form rest words options command only l))
    (λ parts asked. lines.writes rest words options parts spelled asked) (subst (λ o. Exact (form.asks words o) answer) is exact)

-- the same where what is asked is the command
pub answered_by : {Words : Type 0} (form : Form Words Command) (rest : List (List ℕ)) (words : Words) (options seen : List Given) (answer : Result Command WordsFault)
    → Lines form → ((command : Command) → form.make command ≡ command) → seen ≡ options → WordsSpelling form.names rest (form.writing.texts words) options
    → OnlyThese form rest words options → Exact (form.asks words seen) answer → Answers (form.name ∷ rest) answer
answered_by form rest words options seen answer lines same is spelled only exact =
    subst (λ a. Answers (form.name ∷ rest) a) (as_is form.make answer same) (answered form rest words options seen answer lines is spelled only exact)

-- the same where there are no words
pub none_only : (names : Names) (rest : List (List ℕ)) (options : List Given) → ((more : List Given) → WordsSpelling names rest [] more → options ≡ more)
    → (none : ⊤) (more : List Given) → WordsSpelling names rest [] more → (tt ≡ none) × (options ≡ more)
none_only names rest options only none more s = (refl, only more s)

-- the same of two words said one by one
pub two_only : (names : Names) (rest : List (List ℕ)) (first second : List ℕ) (options : List Given)
    → ((a b : List ℕ) (more : List Given) → WordsSpelling names rest (a ∷ b ∷ []) more → (first ≡ a) × (second ≡ b) × (options ≡ more))
    → (pair : List ℕ × List ℕ) (more : List Given) → WordsSpelling names rest (two_words.texts pair) more → ((first, second) ≡ pair) × (options ≡ more)
two_only names rest first second options only pair more s = let same = only pair.0 pair.1 more s in (ap₂ (λ a b. (a, b)) same.0 same.1, same.2)

-- and of three, where the command has no options
pub three_only : (rest : List (List ℕ)) (first second third : List ℕ)
    → ((a b c : List ℕ) (more : List Given) → WordsSpelling no_names rest (a ∷ b ∷ c ∷ []) more → (first ≡ a) × (second ≡ b) × (third ≡ c))
    → (three : List ℕ × List ℕ × List ℕ) (more : List Given) → WordsSpelling no_names rest (three_words.texts three) more → ((first, second, third) ≡ three) × ([] ≡ more)
three_only rest first second third only three more s =
    let same = only three.0 three.1 three.2 more s in
    (same_three first second third three same.0 same.1 same.2, sym (no_options_by more (known no_names rest (three_words.texts three) more s)))

-- the words are one command
pub one_of_form : {Words Parts : Type 0} (form : Form Words Parts) (words rest : List (List ℕ)) (a b : Command) → Lines form → AreNames form.names
    → ((these : Words) (options : List Given) (x y : Parts) → form.asks these options x → form.asks these options y → x ≡ y)
    → words ≡ form.name ∷ rest → OperandLine words a → OperandLine words b → a ≡ b
one_of_form form words rest a b lines are one begins line other =
    let l = lines.reads rest a (subst (λ ws. OperandLine ws a) begins line) in
    let m = lines.reads rest b (subst (λ ws. OperandLine ws b) begins other) in
    let only : OnlyThese form rest l.words l.options = λ others more s.
    let same = one_spelling_of_words form.names rest (form.writing.texts l.words) (form.writing.texts others) l.options more are l.operands s in
    (form.writing.one l.words others same.0, same.1) in
    l.is ∙ ap form.make (one l.words l.options l.parts m.parts l.asked (asked_here form rest l.words l.options b only m)) ∙ sym m.is
