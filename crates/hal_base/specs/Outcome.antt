-- One fault as another, of the layer above.
use Rattle.hal_base.specs.declared.outcome.PageFault.{PageFault}
use Rattle.hal_base.specs.declared.outcome.PageFault.TheVariants as page
use Rattle.hal_base.specs.declared.outcome.StageFault.{StageFault}
use Rattle.hal_base.specs.declared.outcome.StageFault.TheVariants.{Failed, Memory}

abbrev pub page_fault : StageFault → PageFault
page_fault Failed = page.Failed
page_fault Memory = page.Memory
