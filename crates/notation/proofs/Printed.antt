-- What `{n}` prints of a machine word is the console's notation of it.
use Rattle.std.proofs.Common.{◌≡◌, ℕ, zero, suc, ◌^◌, ◌<◌, decimal as printed, arith, lit<}
use Rattle.std.proofs.lemmas.Fmt.{decimal_digit, decimal-digits_of}
use Rattle.notation.specs.Decimal.{decimal}

pub printed_decimal : (n : ℕ) → n < 2 ^ 64 → printed n ≡ decimal n
printed_decimal zero h = decimal_digit 0 (lit< tt)
printed_decimal (suc n) h = decimal-digits_of (suc n) (omega arith) h
