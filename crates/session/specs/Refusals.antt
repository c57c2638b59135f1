-- How each fault is answered: its number, its layer and its place.
use Rattle.answers.specs.declared.answer.Answer.{Answer}
use Rattle.answers.specs.declared.answer.Answer.TheVariants.{Refused}
use Rattle.answers.specs.Said.{refusal}
use Rattle.orders.specs.declared.fault.GateFault.{GateFault}
use Rattle.orders.specs.Faults.{number_of, layer_of, place_of}
use Rattle.session.specs.declared.fault.SessionFault.{SessionFault}
use Rattle.session.specs.declared.fault.SessionFault.TheVariants.{Line, Gate}

abbrev pub gate_refusal : GateFault → Answer
gate_refusal f = Refused (number_of f) (layer_of f) (place_of f)

abbrev pub fault_answer : SessionFault → Answer
fault_answer (Line f) = refusal f
fault_answer (Gate f) = gate_refusal f
