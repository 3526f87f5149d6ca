-- The address that the requests name has the form of an address.
use Rattle.std.proofs.Common.{List, arith, lit<, lit≤, refl, true, ℕ, ◌≡◌, ◌≤◌}
use Rattle.std.proofs.lemmas.Bool.Decides.{nat_tests}
use Rattle.std.proofs.lemmas.List.Elements.{All-weaker}
use Rattle.std.proofs.lemmas.List.Sums.{AllPass-from_list_all}
use Rattle.std.specs.Char.{is_ascii_graphic}
use Rattle.std.specs.List.{list_all}
use Rattle.std.specs.Prelude.{All, codes}
use Rattle.tg_audit.specs.Asking.{audit_addr}
use Rattle.tg_query.specs.Requests.{IsAddr}

visible_by : (b : ℕ) → is_ascii_graphic b ≡ true → (33 ≤ b) × (b ≤ 126)
visible_by b is = grind (arith, nat_tests, is)

visible_all : (word : List ℕ) → list_all is_ascii_graphic word ≡ true → All (λ b. (33 ≤ b) × (b ≤ 126)) word
visible_all word all = All-weaker (λ b. is_ascii_graphic b ≡ true) (λ b. (33 ≤ b) × (b ≤ 126)) visible_by word (AllPass-from_list_all is_ascii_graphic word all)

pub audit_addr_is : IsAddr audit_addr
audit_addr_is = record {
  few = lit≤ tt;
  enough = lit≤ tt;
  visible = visible_all audit_addr refl;
  host = codes "127.0.0.1";
  port = codes "80";
  whole = refl;
  digits = (lit< tt, (lit< tt, (lit< tt, tt)));
  at_most_five = lit≤ tt;
  not_zero = lit≤ tt;
  fits = lit≤ tt;
}
