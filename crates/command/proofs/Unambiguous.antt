-- A text's first letters tell its form, and what stands behind them the rest.
use Rattle.std.proofs.Common.{◌≡◌, ℕ, cond, eqb, List, ◌++◌, get_or, drop, vec_items, codes, sym, refl, ap, ◌∙◌}
use Rattle.notation.specs.Decimal.{decimal, saturated}
use Rattle.notation.specs.Formats.{format_word}
use Rattle.notation.proofs.Numbers.{undecimal, undecimal-decimal}
use Rattle.notation.proofs.Pairs.{unhex, unhex-hex_of}
use Rattle.command.specs.Grammar.{kind_word, Spells}
use Rattle.command.specs.Meaning.{Meaning, line, write, read, flush, queue, carry, pixel, describe, recognize, meaning, Unambiguous}
use Rattle.pixel.specs.declared.Format.{Format}
use Rattle.pixel.specs.declared.Format.TheVariants.{Native, Little, Big}
use Rattle.command.specs.declared.Command.{Command}
use Rattle.command.specs.declared.Command.TheVariants.{Line, Write, Read, Flush, Queue, Carry, Pixel, Describe, Recognize}
use Rattle.command.specs.declared.Kind.{Kind}
use Rattle.command.specs.declared.Kind.TheVariants.{Ring, Batch, Pile}

-- the letter at a place is the first of the word
abbrev pub begins : List ℕ → ℕ → List ℕ → {A : Type 0} → A → A → A
begins text i word x y = cond (eqb (get_or text i 0) (get_or word 0 0)) x y

abbrev line_says : List ℕ → Meaning
line_says text =
    begins text 0 (kind_word Ring) (line Ring (saturated (undecimal (drop 5 text))))
    (begins text 0 (kind_word Batch) (line Batch (saturated (undecimal (drop 6 text)))) (line Pile (saturated (undecimal (drop 5 text)))))

abbrev format_says : List ℕ → Format
format_says text = begins text 0 (format_word Native) Native (begins text 0 (format_word Little) Little Big)

abbrev pixel_says : List ℕ → Meaning
pixel_says text =
    begins text 0 (format_word Native) (pixel Native (undecimal (drop 7 text)))
    (begins text 0 (format_word Little) (pixel Little (undecimal (drop 7 text))) (pixel Big (undecimal (drop 4 text))))

abbrev says : List ℕ → Meaning
says text =
    begins text 0 (codes "line") (line_says (drop 5 text))
    (begins text 0 (codes "write") (write (unhex (drop 6 text)))
    (begins text 0 (codes "read") (read (undecimal (drop 5 text)))
    (begins text 0 (codes "pixel") (pixel_says (drop 6 text))
    (begins text 0 (codes "describe") (describe (format_says (drop 9 text)))
    (begins text 0 (codes "flush") (begins text 1 (codes "lush") flush (recognize (unhex (drop 7 text))))
    (begins text 0 (codes "queue") queue (carry (unhex (drop 6 text)))))))))

line_told : (kind : Kind) (n : ℕ) → line_says (kind_word kind ++ (codes " " ++ decimal n)) ≡ line kind (saturated n)
line_told Ring n = ap (λ m. line Ring (saturated m)) (undecimal-decimal n)
line_told Batch n = ap (λ m. line Batch (saturated m)) (undecimal-decimal n)
line_told Pile n = ap (λ m. line Pile (saturated m)) (undecimal-decimal n)

pixel_told : (format : Format) (n : ℕ) → pixel_says (format_word format ++ (codes " " ++ decimal n)) ≡ pixel format n
pixel_told Native n = ap (pixel Native) (undecimal-decimal n)
pixel_told Little n = ap (pixel Little) (undecimal-decimal n)
pixel_told Big n = ap (pixel Big) (undecimal-decimal n)

format_told : (format : Format) → format_says (format_word format) ≡ format
format_told Native = refl
format_told Little = refl
format_told Big = refl

told : (c : Command) (text : List ℕ) → Spells c text → says text ≡ meaning c
told (Line kind m) text s = ap says s.1 ∙ line_told kind s.0 ∙ ap (line kind) (sym s.2)
told (Write v) text s = ap says s.1 ∙ ap write (unhex-hex_of (vec_items v) s.0)
told (Read n) text s = ap says s.1 ∙ ap read (undecimal-decimal n)
told Flush text s = ap says s
told Queue text s = ap says s
told (Carry v) text s = ap says s.1 ∙ ap carry (unhex-hex_of (vec_items v) s.0)
told (Pixel format v) text s = ap says s.1 ∙ pixel_told format v
told (Describe format) text s = ap says s ∙ ap describe (format_told format)
told (Recognize v) text s = ap says s.1.1 ∙ ap recognize (unhex-hex_of (vec_items v) s.1.0)

pub unambiguous : Unambiguous
unambiguous c d text s t = sym (told c text s) ∙ told d text t
