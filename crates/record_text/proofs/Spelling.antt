-- The words of a line are read back, each kind of word by itself.
use Rattle.std.proofs.Common.{◌≡◌, ◌∷◌, ◌++◌, [], ℕ, List, ◌<◌, ◌≤◌, ◌^◌, zero, suc, Bool, true, false, nat_lt, nat_eq, if◌then◌else◌, map, codes, refl, arith}
use Rattle.std.specs.Fmt.{decimal}
use Rattle.std.specs.List.{list_all}
use Rattle.std.specs.Str.{bytes_eq}
use Rattle.std.specs.Str.Parse.{digits_value, AllDigits}
use Rattle.std.proofs.lemmas.Fmt.{decimal_is_IsNumeral_wide}
use Rattle.std.proofs.lemmas.Str.Parse.{digit_from_value}
use Rattle.std.proofs.lemmas.Bool.Decides.{nat_tests}
use Rattle.ktime.specs.declared.clock_id.ClockId.{ClockId}
use Rattle.ktime.specs.declared.clock_id.ClockId.TheVariants as clocks
use Rattle.ktime.specs.declared.mode.Mode.{Mode}
use Rattle.ktime.specs.declared.mode.Mode.TheVariants as modes
use Rattle.ktime.specs.declared.write.Write.{Write}
use Rattle.ktime.specs.declared.write.Write.TheVariants as writes
use Rattle.seq_timer.specs.declared.event.Restarted.{Restarted}
use Rattle.seq_timer.specs.declared.event.Restarted.TheVariants as restarts
use Rattle.record_text.specs.declared.record.Armed.{Armed}
use Rattle.record_text.specs.declared.record.Armed.TheVariants as arms
use Rattle.record_text.specs.declared.version.Version.{Version}
use Rattle.record_text.specs.declared.version.Version.TheVariants as versions
use Rattle.record_text.specs.Words.{clock_word, mode_word, version_word, flag}
use Rattle.record_text.specs.Text.{write_name, write_ns, restart_word, restarted_numbers, restarted_word, armed_word, counted_word}
use Rattle.record_text.specs.Numbers.{AreMachineNumbers, armed_number}
use Rattle.record_text.proofs.Words.{is_word, are_words}

-- the number that a word writes
pub value : List ℕ → ℕ
value w = digits_value 10 w

pub value_again : (n : ℕ) → n < 2 ^ 128 → value (decimal n) ≡ n
unfolding value
value_again n small = (decimal_is_IsNumeral_wide n (omega arith)).1

-- what holds of the byte of each digit holds of all bytes of a number's digits
digits_are : (test : ℕ → Bool) → ((c : ℕ) → 48 ≤ c → c ≤ 57 → test c ≡ true) → (ds : List ℕ) → AllDigits 10 ds → list_all test ds ≡ true
digits_are test each [] h = refl
digits_are test each (c ∷ cs) h =
    let digit = digit_from_value c h.0 in
    rw (each c (omega (arith, digit.0, digit.1)) (omega (arith, digit.0, digit.1))) (digits_are test each cs h.1)

pub word_decimal : (n : ℕ) → n < 2 ^ 128 → is_word (decimal n) ≡ true
word_decimal n small = digits_are (λ b. nat_lt 32 b) (λ c least most. grind (arith, nat_tests)) _ (decimal_is_IsNumeral_wide n (omega arith)).0.1

pub words_decimals : (ns : List ℕ) → AreMachineNumbers ns → are_words (map decimal ns) ≡ true
words_decimals [] h = refl
words_decimals (n ∷ ns) h = rw (word_decimal n h.0) (words_decimals ns h.1)

pub values_again : (ns : List ℕ) → AreMachineNumbers ns → map value (map decimal ns) ≡ ns
values_again [] h = refl
values_again (n ∷ ns) h = rw (value_again n h.0, values_again ns h.1) refl

-- a word in its place
abbrev pub nth : ℕ → List (List ℕ) → List ℕ
nth n [] = []
nth zero (w ∷ ws) = w
nth (suc n) (w ∷ ws) = nth n ws

abbrev pub number : ℕ → List (List ℕ) → ℕ
number n ws = value (nth n ws)

abbrev pub after : ℕ → List (List ℕ) → List (List ℕ)
after zero ws = ws
after (suc n) [] = []
after (suc n) (w ∷ ws) = after n ws

abbrev pub is_key : List (List ℕ) → List ℕ → Bool
is_key ws key = bytes_eq (nth 0 ws) key

-- bytes up to the digit 9
abbrev pub is_number : List ℕ → Bool
is_number w = list_all (λ b. nat_lt b 58) w

is_number_decimal : (n : ℕ) → n < 2 ^ 128 → is_number (decimal n) ≡ true
is_number_decimal n small = digits_are (λ b. nat_lt b 58) (λ c least most. grind (arith, nat_tests)) _ (decimal_is_IsNumeral_wide n (omega arith)).0.1

-- ---- what a word stands for

-- the value of these that has this word, and the last one where no other has it
abbrev one_of : {X : Type 0} → (X → List ℕ) → List X → X → List ℕ → X
one_of word [] last w = last
one_of word (x ∷ xs) last w = if bytes_eq w (word x) then x else one_of word xs last w

pub flag_of : List ℕ → Bool
flag_of w = nat_eq (value w) 1

pub version_of : List ℕ → Version
version_of w = one_of version_word (versions.One ∷ []) versions.Two w

pub clock_of : List ℕ → ClockId
clock_of w = one_of clock_word (clocks.Monotonic ∷ clocks.Realtime ∷ []) clocks.Boottime w

pub mode_of : List ℕ → Mode
mode_of w = one_of mode_word (modes.Abs ∷ modes.Rel ∷ []) modes.Keep w

pub write_of : List ℕ → ℕ → Write
write_of w time = one_of write_name (writes.Advance time ∷ writes.Set time ∷ []) (writes.Suspend time) w

pub restart_of : List ℕ → Bool
restart_of w = one_of restart_word (true ∷ []) false w

pub counted_of : List ℕ → Bool
counted_of w = one_of counted_word (true ∷ []) false w

pub restarted_of : List ℕ → Restarted
restarted_of w = if is_number w then restarts.Again (value w) else if bytes_eq w (codes "none") then restarts.No else restarts.Spent

pub armed_of : List ℕ → Armed
armed_of w = if is_number w then arms.Generation (value w) else if bytes_eq w (codes "none") then arms.None else arms.Unarmed

-- ---- and that it is read back from it

-- a value is read back from its word, which is one
abbrev pub IsOfWord : {X : Type 0} → (List ℕ → X) → X → List ℕ → Type 0
IsOfWord of x word = (of word ≡ x) × (is_word word ≡ true)

pub flag_read : (b : Bool) → IsOfWord flag_of b (flag b)
unfolding flag_of
flag_read true = rw (value_again 1 (omega arith)) (refl, word_decimal 1 (omega arith))
flag_read false = rw (value_again 0 (omega arith)) (refl, word_decimal 0 (omega arith))

pub version_read : (v : Version) → IsOfWord version_of v (version_word v)
unfolding version_of
version_read versions.One = (refl, refl)
version_read versions.Two = (refl, refl)

pub clock_read : (c : ClockId) → IsOfWord clock_of c (clock_word c)
unfolding clock_of
clock_read clocks.Monotonic = (refl, refl)
clock_read clocks.Realtime = (refl, refl)
clock_read clocks.Boottime = (refl, refl)

pub mode_read : (m : Mode) → IsOfWord mode_of m (mode_word m)
unfolding mode_of
mode_read modes.Abs = (refl, refl)
mode_read modes.Rel = (refl, refl)
mode_read modes.Keep = (refl, refl)

pub write_read : (w : Write) → IsOfWord (λ word. write_of word (write_ns w)) w (write_name w)
unfolding write_of
write_read (writes.Advance by) = (refl, refl)
write_read (writes.Set to) = (refl, refl)
write_read (writes.Suspend by) = (refl, refl)

pub restart_read : (b : Bool) → IsOfWord restart_of b (restart_word b)
unfolding restart_of
restart_read true = (refl, refl)
restart_read false = (refl, refl)

pub counted_read : (b : Bool) → IsOfWord counted_of b (counted_word b)
unfolding counted_of
counted_read true = (refl, refl)
counted_read false = (refl, refl)

pub restarted_read : (r : Restarted) → AreMachineNumbers (restarted_numbers r ++ []) → IsOfWord restarted_of r (restarted_word r)
unfolding restarted_of
restarted_read restarts.No h = (refl, refl)
restarted_read (restarts.Again generation) h = rw (is_number_decimal generation h.0, value_again generation h.0) (refl, word_decimal generation h.0)
restarted_read restarts.Spent h = (refl, refl)

pub armed_read : (a : Armed) → armed_number a < 2 ^ 128 → IsOfWord armed_of a (armed_word a)
unfolding armed_of
armed_read arms.None h = (refl, refl)
armed_read (arms.Generation generation) h = rw (is_number_decimal generation h, value_again generation h) (refl, word_decimal generation h)
armed_read arms.Unarmed h = (refl, refl)
