-- How a fault of reading is told of a deck.
use Rattle.b67_card.specs.declared.reading.ReadFault.{ReadFault}
use Rattle.b67_card.specs.declared.reading.ReadFault.TheVariants as read
use Rattle.b67_card.specs.declared.fault.DeckFault.{DeckFault}
use Rattle.b67_card.specs.declared.fault.DeckFault.TheVariants.{Card, SourceFault, Memory}

abbrev pub fault_of : ReadFault → DeckFault
fault_of (read.TooLong card) = Card card 14
fault_of read.SourceFault = SourceFault
fault_of read.Memory = Memory
