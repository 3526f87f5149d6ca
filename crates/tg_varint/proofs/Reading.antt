-- What `read` answers at each place where it ends, and that no two of its causes stand together.
use Rattle.std.proofs.Common.{◌≡◌, ℕ, ◌+◌, ◌<◌, ◌≤◌, ◌↔◌, List, ◌++◌, length, take, drop, Result, Ok, Err, IfOk, IsErrOf, All, refl, ap, ap₂, sym, ◌∙◌, arith, get_or}
use Rattle.std.proofs.lemmas.List.{take-append-drop, length-take-le}
use Rattle.tg_varint.specs.GroupLaws.{one_group, inside_group, past_group, zero_group, inside_past, inside_zero, past_zero, group_at, zero_at}
use Rattle.tg_varint.specs.declared.VarintFault.{VarintFault}
use Rattle.tg_varint.specs.declared.VarintFault.TheVariants.{Short, TooLong, NotShortest}
use Rattle.tg_varint.specs.Varint.{number_of, AllGoOn, VarintSpelling, EndsInside, PassesNine, EndsInZero}

-- the clauses of `read`
pub record Answers (bytes : List ℕ) (result : Result (ℕ × ℕ) VarintFault) : Type 0 where
  pub found : IfOk result (λ found. (found.1 ≤ length bytes) × VarintSpelling found.0 (take found.1 bytes))
  pub only : (number : ℕ) (spelling rest : List ℕ) → VarintSpelling number spelling → bytes ≡ spelling ++ rest
      → result ≡ Ok (number, length spelling)
  pub short : IsErrOf result Short ↔ EndsInside bytes
  pub too_long : IsErrOf result TooLong ↔ PassesNine bytes
  pub not_shortest : IsErrOf result NotShortest ↔ EndsInZero bytes

pub answers_ok : (bytes : List ℕ) (at number : ℕ) → All (λ b. b < 256) bytes → at < length bytes → at ≤ 8 → AllGoOn (take at bytes)
    → get_or bytes at 0 < 128 → (0 < at → 0 < get_or bytes at 0) → number ≡ number_of (take (at + 1) bytes)
    → Answers bytes (Ok (number, at + 1))
answers_ok bytes at number are_bytes within place goes_on ends shortest spells =
    let spelling = take (at + 1) bytes in
    let rest = drop (at + 1) bytes in
    let v : VarintSpelling number spelling = group_at 9 bytes at number are_bytes within (omega arith) goes_on ends shortest spells in
    let whole : bytes ≡ spelling ++ rest = sym (take-append-drop (at + 1) bytes) in
    record {
      found = (omega arith, v);
      only = λ n s r w e.
          let one = one_group number n spelling s rest r v w (sym whole ∙ e) in
          let lengths : at + 1 ≡ length s = sym (length-take-le (at + 1) bytes (omega arith)) ∙ ap length one.1 in
          ap₂ (λ x y. Ok (x, y)) one.0 lengths;
      short = (λ e. absurd cc, λ i. absurd (inside_group number spelling rest bytes i v whole));
      too_long = (λ e. absurd cc, λ p. absurd (past_group number spelling rest bytes p v whole));
      not_shortest = (λ e. absurd cc, λ z. absurd (zero_group number spelling rest bytes z v whole));
    }

pub answers_zero : (bytes : List ℕ) (at : ℕ) → at < length bytes → at ≤ 8 → AllGoOn (take at bytes)
    → get_or bytes at 0 ≡ 0 → 0 < at → Answers bytes (Err NotShortest)
answers_zero bytes at within place goes_on zero some =
    let here : EndsInZero bytes = zero_at 9 bytes at within (omega arith) goes_on zero some in
    record {
      found = tt;
      only = λ n s rest v e. absurd (zero_group n s rest bytes here v e);
      short = (λ e. absurd cc, λ i. absurd (inside_zero bytes i here));
      too_long = (λ e. absurd cc, λ p. absurd (past_zero bytes p here));
      not_shortest = (λ e. here, λ z. refl);
    }

pub answers_long : (bytes : List ℕ) → PassesNine bytes → Answers bytes (Err TooLong)
answers_long bytes p = record {
  found = tt;
  only = λ n s rest v e. absurd (past_group n s rest bytes p v e);
  short = (λ e. absurd cc, λ i. absurd (inside_past bytes i p));
  too_long = (λ e. p, λ q. refl);
  not_shortest = (λ e. absurd cc, λ z. absurd (past_zero bytes p z));
}

pub answers_short : (bytes : List ℕ) → EndsInside bytes → Answers bytes (Err Short)
answers_short bytes i = record {
  found = tt;
  only = λ n s rest v e. absurd (inside_group n s rest bytes i v e);
  short = (λ e. i, λ j. refl);
  too_long = (λ e. absurd cc, λ p. absurd (inside_past bytes i p));
  not_shortest = (λ e. absurd cc, λ z. absurd (inside_zero bytes i z));
}
