-- The text of each answer.
use Rattle.std.specs.Prelude.{ℕ, ◌≤◌, List, [], ◌∷◌, length, ℤ, pos, Some, None, codes, Option}
use Rattle.lines.specs.Forms.{Atom, word, number, atom_text}
use Rattle.lines.specs.Faults as faults
use Rattle.lines.specs.declared.fault.LineFault.{LineFault}
use Rattle.line_writer.specs.Lines.{render}
use Rattle.answers.specs.declared.answer.Answer.{Answer}
use Rattle.answers.specs.declared.answer.Answer.TheVariants.{Series, Notice, Quote, Level, Order, Phase, Cancel, Work, Sweep, Net, Refused}
use Rattle.orders.specs.declared.fault.Layer.TheVariants as layers
use Rattle.strategy.specs.Forms.{class_name}
use Rattle.orders.specs.Words.{bell_name, outcome_name}
use Rattle.orders.specs.Faults.{layer_name}

-- a price, or none
abbrev pub side : Option ℤ → Atom
side (Some price) = number price
side None = word (codes "none")

abbrev pub said : Answer → List ℕ
said (Series n) = render (codes "series") (number (pos n) ∷ [])
said (Notice n) = render (codes "notice") (number (pos n) ∷ [])
said (Quote series) = render (codes "quote") (number (pos series) ∷ [])
said (Level series) = render (codes "level") (number (pos series) ∷ [])
said (Order n class) = render (codes "order") (number (pos n) ∷ word (class_name class) ∷ [])
said (Phase bell units) = render (codes "phase") (word (bell_name bell) ∷ number (pos units) ∷ [])
said (Cancel units) = render (codes "cancel") (number (pos units) ∷ [])
said (Work units net) = render (codes "work") (number (pos units) ∷ number net ∷ [])
said (Sweep lines units outcome) = render (codes "sweep") (number (pos lines) ∷ number (pos units) ∷ word (outcome_name outcome) ∷ [])
said (Net bid offer) = render (codes "net") (side bid ∷ side offer ∷ [])
said (Refused n layer place) = render (codes "refused") (number (pos n) ∷ word (layer_name layer) ∷ number (pos place) ∷ [])

-- a fault of the line layer
abbrev pub refusal : LineFault → Answer
refusal fault = Refused (faults.number fault) layers.Line (faults.place fault)

-- a number of 64 bits or a word, in writing
abbrev pub Short : Atom → Type 0
Short a = length (atom_text a) ≤ 21
