pub mod LabelSteps
pub mod TokenSteps
pub mod SampleSteps
pub mod DescriptorSteps
