use Rattle.std.proofs.Common.{◌≡◌, ℕ, List, ◌++◌, string_bytes, append_assoc, sym, ap, ◌∙◌}
use Rattle.std.specs.Prelude.{codes, decimal}
use Rattle.bmc_gen.specs.declared.line.Line.{Line}
use Rattle.bmc_gen.specs.declared.line.Line.TheVariants.{Plug}
use Rattle.bmc_gen.specs.Lines.{record_hex, line_text}
use Rattle.bmc_gen.proofs.line.push_line.Goals as goal

regroup : (before plug number space hex end : List ℕ)
    → before ++ plug ++ number ++ (space ++ hex ++ end) ≡ before ++ (plug ++ number ++ space ++ hex ++ end)
regroup before plug number space hex end = simp append_assoc

-- the text behind the address is a space, the record and a newline
plug_text : (before : List ℕ) (number : ℕ)
    → before ++ codes "plug 1 " ++ decimal number ++ (codes " " ++ record_hex ++ codes "\n") ≡ before ++ line_text (Plug number)
unfolding line_text
plug_text before number = regroup before (codes "plug 1 ") (decimal number) (codes " ") record_hex (codes "\n")

pub returns-in_ok-push_numbered-in-Plug : goal.returns-in_ok-push_numbered-in-Plug
returns-in_ok-push_numbered-in-Plug c =
    let pushed : string_bytes c.push_numbered.new.out
    ≡ string_bytes c.args.out.now ++ codes "plug 1 " ++ decimal c.from.result ++ (codes " " ++ record_hex ++ codes "\n") =
    c.in_ok-push_numbered-in-Plug.ensures in
    pushed
    ∙ plug_text (string_bytes c.args.out.now) c.from.result
    ∙ ap (λ (address : ℕ). string_bytes c.args.out.now ++ line_text (Plug address)) c.from.ensures
    ∙ ap (λ (line : Line). string_bytes c.args.out.now ++ line_text line) (sym c.in-Plug.is)
