-- What the words of a command line ask for, by what is read of them.
use Rattle.std.proofs.Common.{◌≡◌, ℕ, ◌≤◌, ◌<◌, Bool, true, false, List, [], ◌∷◌, length, map, Option, Some, None, refl, sym, ap, subst, ◌∙◌, nat_le, if◌then◌else◌, ◌&&◌, ◌==◌, ◌⊎◌, inl, inr, arith, string_bytes, String}
use Rattle.std.specs.Global.{Global}
use Rattle.std.proofs.lemmas.Bool.{le-leb, lt-leb, ne_eqb}
use Rattle.clap.specs.Words.{IsAmong, Kinds, Row, Text, fault_of, first_of, is_simple, is_simple_and_free, subcommand_of}
use Rattle.clap.specs.declared.error.kind.ErrorKind.{ErrorKind}
use Rattle.clap.proofs.OnLiterals.{clap_on_literals}
use Rattle.script_text.specs.Reading.{number_in}
use Rattle.hrt_top.specs.Command.{request_in, asked_of, option_number, program}

-- ---- an option's number

module _ (name : Text) (least most : ℕ) (rows : List Row) where
  pub not_given : None ≡ first_of name rows → None ≡ option_number name least most rows
  not_given none = rw (← none) refl

  pub not_read : (text : Text) → Some text ≡ first_of name rows → None ≡ number_in text → None ≡ option_number name least most rows
  not_read text given none = rw (← given, ← none) refl

  module _ (text : Text) (n : ℕ) (given : Some text ≡ first_of name rows) (is : Some n ≡ number_in text) where
    read : (if nat_le least n && nat_le n most then Some n else None) ≡ option_number name least most rows
    read = rw (← given, ← is) refl

    pub within : least ≤ n → n ≤ most → Some n ≡ option_number name least most rows
    within low high = let one : nat_le least n ≡ true = le-leb least n low in let other : nat_le n most ≡ true = le-leb n most high in
        subst (λ o. o ≡ option_number name least most rows) (rw (one, other) refl) read

    pub outside : ((least ≤ n) × (most < n)) ⊎ (n < least) → None ≡ option_number name least most rows
    outside (inl over) =
        let low : nat_le least n ≡ true = le-leb least n over.0 in
        let high : nat_le n most ≡ false = lt-leb n most over.1 in
        subst (λ o. o ≡ option_number name least most rows) (rw (low, high) refl) read
    outside (inr under) =
        let low : nat_le least n ≡ false = lt-leb least n under in
        subst (λ o. o ≡ option_number name least most rows) (rw low refl) read

-- ---- the command

pub program_is_free : is_simple_and_free program ≡ true
unfolding clap_on_literals
program_is_free = refl

pub program_is_simple : is_simple program ≡ true
unfolding clap_on_literals
program_is_simple = refl

module _ (words : List (String Global)) where
  pub asks_by_matches : (found : Option (Text × List Row)) → fault_of program (map string_bytes words) ≡ []
      → found ≡ subcommand_of program (map string_bytes words) → asked_of found ≡ request_in words
  unfolding request_in
  asks_by_matches found none is =
      ap asked_of is
      ∙ ap (λ (ks : Kinds). if length ks == 0 then asked_of (subcommand_of program (map string_bytes words)) else None) (sym none)

  pub asks_nothing : (k : ErrorKind) → IsAmong k (fault_of program (map string_bytes words)) → None ≡ request_in words
  unfolding request_in
  asks_nothing k among = go (fault_of program (map string_bytes words)) among
    where
      go : (ks : Kinds) → IsAmong k ks → None ≡ (if length ks == 0 then asked_of (subcommand_of program (map string_bytes words)) else None)
      go [] among = absurd among
      go (x ∷ xs) among =
          ap (λ (b : Bool). if b then asked_of (subcommand_of program (map string_bytes words)) else None)
          (sym (ne_eqb (length (x ∷ xs)) 0 (λ is. omega (arith, is))))
