use Rattle.msf_image.specs.Packed.{given_before}
use Rattle.msf_image.proofs.Giving.{given_is, none_left, rises, unreserved_given}
use Rattle.msf_image.proofs.laws.given_in_order.Goals as goal

pub returns-clause-least : goal.returns-clause-least
returns-clause-least c = λ size k h. (given_is size k h).least

pub returns-clause-unreserved : goal.returns-clause-unreserved
returns-clause-unreserved c = unreserved_given

pub returns-clause-rises : goal.returns-clause-rises
returns-clause-rises c = rises

pub returns-clause-none_left : goal.returns-clause-none_left
returns-clause-none_left c = λ size b h least free. (given_before size b, none_left size b h least free)
